-- The index of a volume of version 1: no block, or one chain of index blocks of level 0 from the top block on.
use Rattle.std.specs.Prelude.{◌≡◌, ◌⊎◌, ℕ, ◌<◌, ◌≤◌, Bool, true, ◌&&◌, List, [], ◌∷◌, slice_index}
use Rattle.std.specs.Ordering.{nat_cmp, is_lt}
use Rattle.std.specs.Cmp.Lexicographic.{slice_cmp}
use Rattle.std.specs.Option.{option_map_or}
use Rattle.hd_bytes.specs.Numbers.{number_at}
use Rattle.hd_dbd.specs.Types.{SegmentType}
use Rattle.hd_dbd.specs.Hierarchy.{type_of}
pub use Rattle.hd_dbd.specs.IndexBlocks.{entry_room}
use Rattle.hd_volume.specs.Headers.{header_of}
use Rattle.hd_volume.specs.Volumes.{VolumeState, block_at, IsKind, IsFormatted}
use Rattle.hd_volume.specs.Entries.{Entry, entry_blocks, entries}

-- the bytes of an index's keys, which are the keys of the roots
abbrev pub root_key_length : List SegmentType → ℕ
root_key_length types = option_map_or (λ t. option_map_or (λ k. k.length) t.key 0) (type_of types 1) 0

-- Block n is an index block of level 0, with no more entries than find room.
pub record IsEntryBlock (key_length : ℕ) (v : VolumeState) (n : ℕ) : Type 0 where
  pub is : IsKind v 2 n
  pub level : slice_index (block_at v n) 3 ≡ 0
  pub count : number_at 2 (block_at v n) 4 ≤ entry_room key_length v.size

-- These blocks are the chain from a number on: each bears entries and names the next, and the last names none.
abbrev pub IsChain : ℕ → VolumeState → ℕ → List ℕ → Type 0
IsChain key_length v start [] = start ≡ 0
IsChain key_length v start (n ∷ blocks) = (start ≡ n) × IsEntryBlock key_length v n × IsChain key_length v (number_at 4 (block_at v n) 8) blocks

-- the number is one of these
abbrev pub IsAmong : ℕ → List ℕ → Type 0
IsAmong n [] = ⊥
IsAmong n (m ∷ ms) = (n ≡ m) ⊎ IsAmong n ms

-- one key is less than another, byte by byte
abbrev pub key_less : List ℕ → List ℕ → Bool
key_less k l = is_lt (slice_cmp nat_cmp k l)

-- the first key is less than that of the first entry
abbrev pub is_below_first : List ℕ → List Entry → Bool
is_below_first key [] = true
is_below_first key (e ∷ es) = key_less key e.key

-- each key is above the one to its left
abbrev pub keys_ascend : List Entry → Bool
keys_ascend [] = true
keys_ascend (e ∷ es) = is_below_first e.key es && keys_ascend es

-- The volume has an index for keys of a length: its blocks are the chain from the top block on, no other block is an index
-- block, the height is 1 where there is a top block and else 0, and each key is above the one to its left.
pub record HasIndex (key_length : ℕ) (v : VolumeState) : Type 0 where
  pub formatted : IsFormatted v
  pub version : (header_of v.image).version ≡ 1
  pub height : (((header_of v.image).top ≡ 0) × ((header_of v.image).height ≡ 0)) ⊎ ((0 < (header_of v.image).top) × ((header_of v.image).height ≡ 1))
  pub chain : IsChain key_length v (header_of v.image).top (entry_blocks v)
  pub reached : (n : ℕ) → IsKind v 2 n → IsAmong n (entry_blocks v)
  pub ascend : keys_ascend (entries key_length v) ≡ true

-- so many blocks may be needed for one entry more
unfoldable pub index_growth : VolumeState → ℕ
index_growth v = 1
