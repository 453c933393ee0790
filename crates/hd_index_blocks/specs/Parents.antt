-- Which blocks name a block of an index.
use Rattle.std.specs.Prelude.{◌≡◌, ◌⊎◌, ℕ, suc, ◌≤◌, List, Some}
use Rattle.hd_volume.specs.Volumes.{VolumeState, IsKind, IsFormatted}
use Rattle.hd_volume.specs.Indexes.{entry_room, IsAmong}
use Rattle.hd_index_blocks.specs.Levels.{IndexBlocks, named, blocks_down, IsIndexSet}
use Rattle.hd_index_blocks.specs.IndexSets.{level_in, index_blocks, top_blocks, top_level, HasIndexSet}

-- Block n of a level is named by an entry of a block of the level above.
pub record HasParent (c : IndexBlocks) (l n : ℕ) : Type 0 where
  pub parent : ℕ
  pub level : c.level parent ≡ Some (suc l)
  pub names : IsAmong n (named (c.entries parent))

-- Each block is of a level up to this, and is among these or has a parent.
abbrev pub ArePlaced : IndexBlocks → ℕ → List ℕ → Type 0
ArePlaced c h ns = (n l : ℕ) → c.level n ≡ Some l → (l ≤ h) × (IsAmong n ns ⊎ HasParent c l n)

-- So it is in a volume that has an index set, where the top alone has no parent.
abbrev pub IndexBlocksArePlaced : Type 0
IndexBlocksArePlaced = (key_length : ℕ) (v : VolumeState) → HasIndexSet key_length v → ArePlaced (index_blocks key_length v) (top_level v) (top_blocks v)

-- And where it is so, the top leads to each block.
abbrev pub PlacedBlocksAreReached : Type 0
PlacedBlocksAreReached = (c : IndexBlocks) (h : ℕ) (ns : List ℕ) → IsIndexSet c h ns → ArePlaced c h ns → (n l : ℕ) → c.level n ≡ Some l → IsAmong n (blocks_down c h ns)
