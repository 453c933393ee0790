-- The fields of an index block's bytes.
use Rattle.std.specs.Prelude.{ℕ, suc, ◌+◌, ◌≤◌, min, cond, List, [], ◌∷◌, length}
use Rattle.hd_bytes.specs.Numbers.{number_at}
use Rattle.hd_bytes.specs.Ranges.{bytes_at}
pub use Rattle.hd_dbd.specs.IndexBlocks.{entry_place}
use Rattle.hd_volume.specs.Entries.{Entry}
use Rattle.hd_volume.specs.Indexes.{entry_room, key_less}

-- the entry of a block at an index
abbrev pub entry_in : ℕ → List ℕ → ℕ → Entry
entry_in key_length block index = record { key = bytes_at block (entry_place key_length index) key_length; address = number_at 4 block (entry_place key_length index + key_length) }

-- how many entries a block has, no more than find room in it
abbrev pub entry_count : ℕ → List ℕ → ℕ
entry_count key_length block = min (number_at 2 block 4) (entry_room key_length (length block))

-- the block counts no more entries than find room in it
abbrev pub CountFits : ℕ → List ℕ → Type 0
CountFits key_length block = number_at 2 block 4 ≤ entry_room key_length (length block)

-- how many entries at the front have a lesser key
abbrev pub below_count : List ℕ → List Entry → ℕ
below_count key [] = 0
below_count key (e ∷ es) = cond (key_less e.key key) (suc (below_count key es)) 0
