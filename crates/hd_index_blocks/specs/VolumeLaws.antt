-- Laws of a volume that has an index set.
use Rattle.std.specs.Prelude.{◌≡◌, ◌≢◌, ℕ, suc, ◌+◌, ◌-◌, ◌<◌, ◌≤◌, ◌==◌, ◌↔◌, cond, true, List, [], ◌∷◌, ◌++◌, slice_index, Some}
use Rattle.hd_bytes.specs.Numbers.{number_at}
use Rattle.hd_volume.specs.Headers.{header_of}
use Rattle.hd_volume.specs.Volumes.{VolumeState, block_at, IsKind, IsFormatted}
use Rattle.hd_volume.specs.Calls.{KeepsIndex}
use Rattle.hd_volume.specs.Entries.{Entry, entries_in, entries}
use Rattle.hd_volume.specs.Indexes.{entry_room, keys_ascend, IsAmong}
use Rattle.hd_index_blocks.specs.Maps.{address_of, address_from}
use Rattle.hd_index_blocks.specs.Levels.{across, entries_below, blocks_down}
use Rattle.hd_index_blocks.specs.Ways.{child_of, leaf_of}
use Rattle.hd_index_blocks.specs.IndexSets.{level_in, next_in, index_blocks, top_blocks, top_level, sequence_blocks, index_entries, HasIndexSet, HasIndexOf}
use Rattle.hd_index_blocks.specs.Needs.{entry_growth, set_blocks_needed}

-- Block n is an index block of a level, with an entry at least and no more than find room, and its keys ascend.
pub record IsRightBlock (key_length : ℕ) (v : VolumeState) (l n : ℕ) : Type 0 where
  pub is : IsKind v 2 n
  pub level : slice_index (block_at v n) 3 ≡ l
  pub some : 0 < number_at 2 (block_at v n) 4
  pub count : number_at 2 (block_at v n) 4 ≤ entry_room key_length v.size
  pub ascend : keys_ascend (entries_in key_length (block_at v n)) ≡ true

-- each number stands once
abbrev pub StandOnce : List ℕ → Type 0
StandOnce [] = Unit {0}
StandOnce (n ∷ ns) = (IsAmong n ns → ⊥) × StandOnce ns

-- ---- the blocks

-- A block has a level just where it is an index block, and it is byte 3.
abbrev pub LevelsAreOfIndexBlocks : Type 0
LevelsAreOfIndexBlocks = (v : VolumeState) (n l : ℕ) → level_in v n ≡ Some l ↔ (IsKind v 2 n × (slice_index (block_at v n) 3 ≡ l))

-- Each index block is right, of a level below the height.
abbrev pub IndexBlocksAreRight : Type 0
IndexBlocksAreRight =
    (key_length : ℕ) (v : VolumeState) (n : ℕ) → HasIndexSet key_length v → IsKind v 2 n
    → (slice_index (block_at v n) 3 < (header_of v.image).height) × IsRightBlock key_length v (slice_index (block_at v n) 3) n

-- The top is right, and of the level below the height.
abbrev pub TopsAreRight : Type 0
TopsAreRight = (key_length : ℕ) (v : VolumeState) → HasIndexSet key_length v → 0 < (header_of v.image).top → IsRightBlock key_length v (top_level v) (header_of v.image).top

-- An upper block leads to a right one of the level below.
abbrev pub ChildrenAreRight : Type 0
ChildrenAreRight =
    (key_length : ℕ) (v : VolumeState) (key : List ℕ) (l n : ℕ) → HasIndexSet key_length v → IsRightBlock key_length v (suc l) n
    → IsRightBlock key_length v l (child_of key (entries_in key_length (block_at v n)))

-- The top and what upper entries name are all index blocks, each once.
abbrev pub BlocksAreNamedOnce : Type 0
BlocksAreNamedOnce = (key_length : ℕ) (v : VolumeState) → HasIndexSet key_length v → StandOnce (blocks_down (index_blocks key_length v) (top_level v) (top_blocks v))

-- ---- the entries

-- Of version 1 the entries are those of the chain; else those of the sequence set below the top.
abbrev pub EntriesAreBelow : Type 0
EntriesAreBelow =
    (key_length : ℕ) (v : VolumeState)
    → ((header_of v.image).version ≡ 1 → index_entries key_length v ≡ entries key_length v)
    × ((header_of v.image).version ≢ 1 → index_entries key_length v ≡ entries_below (index_blocks key_length v) (top_level v) (top_blocks v))

-- Of each version the keys of the entries ascend.
abbrev pub EntriesAscend : Type 0
EntriesAscend = (key_length : ℕ) (v : VolumeState) → HasIndexOf key_length v → keys_ascend (index_entries key_length v) ≡ true

-- A key is found in the block of the sequence set that it leads to, and the least key that is not below it there or first in the next block.
abbrev pub LeavesAnswerForAll : Type 0
LeavesAnswerForAll =
    (key_length : ℕ) (v : VolumeState) (key : List ℕ) (n : ℕ) → HasIndexSet key_length v → 0 < (header_of v.image).top
    → n ≡ leaf_of (index_blocks key_length v) key (top_level v) (header_of v.image).top
    → IsRightBlock key_length v 0 n × (address_of key (index_entries key_length v) ≡ address_of key (entries_in key_length (block_at v n)))
    × (address_from key (index_entries key_length v)
    ≡ address_from key (entries_in key_length (block_at v n) ++ cond (next_in v n == 0) [] (entries_in key_length (block_at v (next_in v n)))))

-- ---- room

-- A new key never needs more blocks than an entry may need.
abbrev pub FewBlocksAreNeeded : Type 0
FewBlocksAreNeeded = (key_length : ℕ) (v : VolumeState) (key : List ℕ) → HasIndexSet key_length v → set_blocks_needed key_length v key ≤ entry_growth v

-- ---- what stays

-- The index depends on the index blocks, and on the header's top and height, alone: where these stay and no other block has become one, the
-- volume has the same index, which needs as much room.
abbrev pub IndexSetsStay : Type 0
IndexSetsStay =
    (key_length : ℕ) (v w : VolumeState) → HasIndexSet key_length v → IsFormatted w → w.size ≡ v.size
    → header_of w.image ≡ record (header_of v.image) { count = (header_of w.image).count; first_root = (header_of w.image).first_root; last_root = (header_of w.image).last_root }
    → KeepsIndex v w → ((n : ℕ) → IsKind w 2 n → IsKind v 2 n)
    → HasIndexSet key_length w × (index_entries key_length w ≡ index_entries key_length v) × (entry_growth w ≡ entry_growth v)
    × ((key : List ℕ) → set_blocks_needed key_length w key ≡ set_blocks_needed key_length v key)

-- So does the index of a volume of any version.
abbrev pub IndexesStay : Type 0
IndexesStay =
    (key_length : ℕ) (v w : VolumeState) → HasIndexOf key_length v → IsFormatted w → w.size ≡ v.size
    → header_of w.image ≡ record (header_of v.image) { count = (header_of w.image).count; first_root = (header_of w.image).first_root; last_root = (header_of w.image).last_root }
    → KeepsIndex v w → ((n : ℕ) → IsKind w 2 n → IsKind v 2 n)
    → HasIndexOf key_length w × (index_entries key_length w ≡ index_entries key_length v) × (entry_growth w ≡ entry_growth v)
