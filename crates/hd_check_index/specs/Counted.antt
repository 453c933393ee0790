-- The entries of an index block that has room for as many as it counts.
use Rattle.std.specs.Prelude.{ℕ, ◌<◌, ◌≤◌, List}
use Rattle.hd_bytes.specs.Numbers.{number_at}
use Rattle.hd_volume.specs.Volumes.{VolumeState, block_at}
use Rattle.hd_volume.specs.Entries.{Entry, entries_in}
use Rattle.hd_volume.specs.Indexes.{entry_room}
use Rattle.hd_index_blocks.specs.Fields.{CountFits}
use Rattle.hd_index_blocks.specs.declared.block.IndexBlock.{IndexBlock}

-- the fact holds of a block's entries
abbrev pub OfEntries : IndexBlock → (List Entry → Type 0) → Type 0
OfEntries block fact = CountFits block.key_length block.bytes.now → fact (entries_in block.key_length block.bytes.now)

-- and where there is one at least
abbrev pub OfSomeEntries : IndexBlock → (List Entry → Type 0) → Type 0
OfSomeEntries block fact = CountFits block.key_length block.bytes.now → 0 < number_at 2 block.bytes.now 4 → fact (entries_in block.key_length block.bytes.now)

-- the fact holds of the entries of block n of a volume, where it counts no more than find room
abbrev pub OfFitting : ℕ → VolumeState → ℕ → (List Entry → Type 0) → Type 0
OfFitting key_length v n fact = number_at 2 (block_at v n) 4 ≤ entry_room key_length v.size → fact (entries_in key_length (block_at v n))
