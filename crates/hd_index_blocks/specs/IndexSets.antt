-- The index of a volume. In version 1 it is one chain of blocks; from version 2 on an index set stands above the sequence set, from one
-- block at the top down.
use Rattle.std.specs.Prelude.{◌≡◌, ◌≢◌, ◌⊎◌, ℕ, ◌+◌, ◌-◌, ◌*◌, ◌<◌, ◌≤◌, ◌==◌, ◌&&◌, not, nat_le, cond, Bool, List, [], ◌∷◌, length, Option, Some, None, slice_index}
use Rattle.hd_bytes.specs.Numbers.{number_at}
use Rattle.hd_volume.specs.Headers.{header_of}
use Rattle.hd_volume.specs.Volumes.{VolumeState, block_at, kind_of, IsKind, IsFormatted}
use Rattle.hd_volume.specs.Entries.{Entry, entries_in, entries_of, entry_blocks}
use Rattle.hd_volume.specs.Indexes.{entry_room, IsAmong, HasIndex}
use Rattle.hd_index_blocks.specs.Levels.{IndexBlocks, sequence_set, blocks_down, IsIndexSet}
use Rattle.hd_index_blocks.specs.Chains.{AreLevelsLinked}

-- ---- the blocks of a volume

-- block n is an index block
abbrev pub is_index_block : VolumeState → ℕ → Bool
is_index_block v n = not (n == 0) && (nat_le (n * v.size + v.size) (length v.image) && kind_of (block_at v n) == 2)

-- Its level is byte 3.
abbrev pub level_in : VolumeState → ℕ → Option ℕ
level_in v n = cond (is_index_block v n) (Some (slice_index (block_at v n) 3)) None

-- bytes 8 to 11 name the next block on its level, 0 for none
abbrev pub next_in : VolumeState → ℕ → ℕ
next_in v n = number_at 4 (block_at v n) 8

-- the blocks of a volume, with keys of a length
abbrev pub index_blocks : ℕ → VolumeState → IndexBlocks
index_blocks key_length v = record { entries = λ n. entries_in key_length (block_at v n); level = level_in v }

-- the block at the top of the index, if there is one, and its level
abbrev pub top_blocks : VolumeState → List ℕ
top_blocks v = cond ((header_of v.image).top == 0) [] ((header_of v.image).top ∷ [])

abbrev pub top_level : VolumeState → ℕ
top_level v = (header_of v.image).height - 1

-- ---- the entries

-- the blocks that bear the entries of the index, from left to right: the chain of version 1, and else the sequence set below the top
abbrev pub sequence_blocks : ℕ → VolumeState → List ℕ
sequence_blocks key_length v =
    cond ((header_of v.image).version == 1) (entry_blocks v) (sequence_set (index_blocks key_length v) (top_level v) (top_blocks v))

-- the entries of the index, from left to right
abbrev pub index_entries : ℕ → VolumeState → List Entry
index_entries key_length v = entries_of key_length v (sequence_blocks key_length v)

-- ---- a volume that has an index

-- top and height are both 0, or neither, and the height is at most 64
abbrev pub IsHeightRight : VolumeState → Type 0
IsHeightRight v =
    (((header_of v.image).top ≡ 0) × ((header_of v.image).height ≡ 0))
    ⊎ ((0 < (header_of v.image).top) × (0 < (header_of v.image).height) × ((header_of v.image).height ≤ 64))

-- The volume is of version 2 or later and has an index for keys of a length: from the top down its blocks are an index set, no other block is an
-- index block, each has no more entries than find room, and on each level `next` is the order from left to right.
pub record HasIndexSet (key_length : ℕ) (v : VolumeState) : Type 0 where
  pub formatted : IsFormatted v
  pub version : (header_of v.image).version ≢ 1
  pub height : IsHeightRight v
  pub set : IsIndexSet (index_blocks key_length v) (top_level v) (top_blocks v)
  pub reached : (n : ℕ) → IsKind v 2 n → IsAmong n (blocks_down (index_blocks key_length v) (top_level v) (top_blocks v))
  pub count : (n : ℕ) → IsKind v 2 n → number_at 2 (block_at v n) 4 ≤ entry_room key_length v.size
  pub next : AreLevelsLinked (index_blocks key_length v) (next_in v) (top_level v) (top_blocks v)

-- The volume has an index for keys of a length, as its version forms it.
abbrev pub HasIndexOf : ℕ → VolumeState → Type 0
HasIndexOf key_length v = HasIndex key_length v ⊎ HasIndexSet key_length v
