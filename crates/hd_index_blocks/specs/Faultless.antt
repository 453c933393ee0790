-- An index set as a check of the volume finds it: block by block, then what is named and reached, then the order and the keys of each level.
use Rattle.std.specs.Prelude.{◌≡◌, ◌≢◌, ◌⊎◌, ◌↔◌, ℕ, zero, suc, ◌<◌, ◌≤◌, true, List, [], ◌∷◌, Some, slice_get}
use Rattle.hd_bytes.specs.Numbers.{number_at}
use Rattle.hd_volume.specs.Headers.{header_of}
use Rattle.hd_volume.specs.Volumes.{VolumeState, block_at, IsKind, IsFormatted}
use Rattle.hd_volume.specs.Entries.{Entry, entries_in}
use Rattle.hd_volume.specs.Indexes.{entry_room, key_less, keys_ascend, IsAmong}
use Rattle.hd_index_blocks.specs.Levels.{IndexBlocks, across, named, entries_below, blocks_down, AreUpTo}
use Rattle.hd_index_blocks.specs.Chains.{AreLevelsLinked}
use Rattle.hd_index_blocks.specs.IndexSets.{level_in, next_in, index_blocks, top_blocks, top_level, IsHeightRight, HasIndexSet}

-- ---- the form of the blocks

-- The index block n of a level is right by itself: its level is below the height, it counts an entry at least and no more than find room, its
-- next block, if there is one, is of its level, and what an upper entry names is of the level below.
pub record IsFormRight (key_length : ℕ) (v : VolumeState) (l n : ℕ) : Type 0 where
  pub low : l < (header_of v.image).height
  pub some : 0 < number_at 2 (block_at v n) 4
  pub count : number_at 2 (block_at v n) 4 ≤ entry_room key_length v.size
  pub next : (next_in v n ≡ 0) ⊎ (level_in v (next_in v n) ≡ Some l)
  pub names : (j m : ℕ) → l ≡ suc j → IsAmong m (named (entries_in key_length (block_at v n))) → level_in v m ≡ Some j

-- Top and height are right, the top is an index block of the highest level, and each index block is right by itself.
pub record AreFormsRight (key_length : ℕ) (v : VolumeState) : Type 0 where
  pub height : IsHeightRight v
  pub top : 0 < (header_of v.image).top → level_in v (header_of v.image).top ≡ Some (top_level v)
  pub blocks : (n l : ℕ) → level_in v n ≡ Some l → IsFormRight key_length v l n

-- ---- which blocks are named

-- block n is named: by the header, 0, as the top block, or by an upper block at the index of an entry
abbrev pub IsNamedAt : ℕ → VolumeState → ℕ → ℕ → ℕ → Type 0
IsNamedAt key_length v h i n =
    ((h ≡ 0) × (i ≡ 0) × ((header_of v.image).top ≡ n))
    ⊎ ((l : ℕ) × (level_in v h ≡ Some (suc l)) × (slice_get (named (entries_in key_length (block_at v h))) i ≡ Some n))

-- no index block is named twice
abbrev pub AreNamedOnce : ℕ → VolumeState → Type 0
AreNamedOnce key_length v = (n g i h j : ℕ) → IsKind v 2 n → IsNamedAt key_length v g i n → IsNamedAt key_length v h j n → (g ≡ h) × (i ≡ j)

-- ---- what is reached

-- each index block is reached from the top by upper entries
abbrev pub AreAllReached : ℕ → VolumeState → Type 0
AreAllReached key_length v = (n : ℕ) → IsKind v 2 n → IsAmong n (blocks_down (index_blocks key_length v) (top_level v) (top_blocks v))

-- ---- the keys

-- every key is above this one
abbrev pub AreAbove : List ℕ → List Entry → Type 0
AreAbove key [] = Unit {0}
AreAbove key (e ∷ es) = (key_less key e.key ≡ true) × AreAbove key es

-- Each upper key is at least every key of the sequence set below its block, and less than every one below the entry that follows.
abbrev pub AreBetween : IndexBlocks → ℕ → List Entry → Type 0
AreBetween c l [] = Unit {0}
AreBetween c l (e ∷ []) = AreUpTo e.key (entries_below c l (e.address ∷ []))
AreBetween c l (e ∷ f ∷ es) = AreUpTo e.key (entries_below c l (e.address ∷ [])) × AreAbove e.key (entries_below c l (f.address ∷ [])) × AreBetween c l (f ∷ es)

-- On each level down from some blocks the keys ascend, and the upper keys keep their bounds.
abbrev pub AreKeysRight : IndexBlocks → ℕ → List ℕ → Type 0
AreKeysRight c zero ns = keys_ascend (across c ns) ≡ true
AreKeysRight c (suc l) ns = (keys_ascend (across c ns) ≡ true) × AreBetween c l (across c ns) × AreKeysRight c l (named (across c ns))

-- ---- all together

-- Of a volume of version 2 or later nothing is wrong with the index.
pub record IsFaultless (key_length : ℕ) (v : VolumeState) : Type 0 where
  pub formatted : IsFormatted v
  pub version : (header_of v.image).version ≢ 1
  pub forms : AreFormsRight key_length v
  pub once : AreNamedOnce key_length v
  pub reached : AreAllReached key_length v
  pub next : AreLevelsLinked (index_blocks key_length v) (next_in v) (top_level v) (top_blocks v)
  pub keys : AreKeysRight (index_blocks key_length v) (top_level v) (top_blocks v)

-- Just the volumes that have an index set are without a fault.
abbrev pub IndexSetsAreFaultless : Type 0
IndexSetsAreFaultless = (key_length : ℕ) (v : VolumeState) → HasIndexSet key_length v ↔ IsFaultless key_length v
