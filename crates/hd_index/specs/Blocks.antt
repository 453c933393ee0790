-- Blocks that a search reads, and where it comes to.
use Rattle.std.specs.Prelude.{◌≡◌, true, ℕ, ◌≤◌, ◌<◌, ◌==◌, cond, List, Bool, nat_le, length, ◌+◌}
use Rattle.hd_bytes.specs.Numbers.{number_at}
use Rattle.hd_volume.specs.Headers.{header_of}
use Rattle.hd_volume.specs.Volumes.{VolumeState, block_at, IsKind}
use Rattle.hd_volume.specs.Entries.{Entry, entries_in}
use Rattle.hd_volume.specs.Indexes.{entry_room, keys_ascend}
use Rattle.hd_index_blocks.specs.Ways.{leaf_of}
use Rattle.hd_index_blocks.specs.IndexSets.{index_blocks, top_level}
use Rattle.hd_index_blocks.specs.Needs.{full_blocks, is_full}
use Rattle.hd_index_blocks.specs.VolumeLaws.{IsRightBlock}

-- Block n is an index block with no more entries than find room, and their keys ascend.
pub record IsInOrder (key_length : ℕ) (v : VolumeState) (n : ℕ) : Type 0 where
  pub is : IsKind v 2 n
  pub count : number_at 2 (block_at v n) 4 ≤ entry_room key_length v.size
  pub ascend : keys_ascend (entries_in key_length (block_at v n)) ≡ true

-- the fact holds of the entries of index block n, where they are in order and there is one at least
abbrev pub OfSomeInOrder : ℕ → VolumeState → ℕ → (List Entry → Type 0) → Type 0
OfSomeInOrder key_length v n fact = IsInOrder key_length v n → 0 < number_at 2 (block_at v n) 4 → fact (entries_in key_length (block_at v n))

-- Block m of a level is the one to which a key leads from block n, so many levels above it.
abbrev pub IsLeadDown : ℕ → VolumeState → List ℕ → ℕ → ℕ → ℕ → ℕ → Type 0
IsLeadDown key_length v key levels l n m = (m ≡ leaf_of (index_blocks key_length v) key levels n) × IsRightBlock key_length v l m

-- the block of the sequence set that a key leads to from the top, 0 where there is none
abbrev pub leaf_at : ℕ → VolumeState → List ℕ → ℕ
leaf_at key_length v key = cond ((header_of v.image).top == 0) 0 (leaf_of (index_blocks key_length v) key (top_level v) (header_of v.image).top)

-- how many blocks are full without a gap, from the sequence set up to block n of a level, where a key leads down from it
abbrev pub full_down : ℕ → VolumeState → List ℕ → ℕ → ℕ → ℕ
full_down key_length v key l n = full_blocks (index_blocks key_length v) (entry_room key_length v.size) key l n

-- the entries of block n
abbrev pub entries_of : ℕ → VolumeState → ℕ → List Entry
entries_of key_length v n = entries_in key_length (block_at v n)

-- so many levels below block n, whatever level it is right on, is the block to which a key leads
abbrev pub LeadsDown : ℕ → VolumeState → List ℕ → ℕ → ℕ → ℕ → Type 0
LeadsDown key_length v key levels n m = (l : ℕ) → IsRightBlock key_length v (levels + l) n → IsLeadDown key_length v key levels l n m

-- the bytes of a block have as many entries as find room
abbrev pub has_all_entries : ℕ → List ℕ → Bool
has_all_entries key_length bytes = nat_le (entry_room key_length (length bytes)) (length (entries_in key_length bytes))

-- a run of full blocks above block n with that block: none where it is not full
abbrev pub run_with : ℕ → VolumeState → ℕ → ℕ → ℕ
run_with key_length v n run = cond (is_full (index_blocks key_length v) (entry_room key_length v.size) n) (run + 1) 0
