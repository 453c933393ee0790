use Rattle.std.proofs.Common.{ℕ, ◌<◌, List, take}
use Rattle.hd_index_blocks.specs.Levels.{IndexBlocks, entries_below}
use Rattle.hd_check_index.specs.Extents.{IsExtent}
use Rattle.hd_check_index.specs.BlockExtents.{AreExtents}
use Rattle.hd_check_index.proofs.extents.extent_of_blocks.Given as goal

-- the extent of the blocks before
abbrev pub invariant-loop-index : goal.invariant-loop-index
invariant-loop-index l = record {
  extent : (c : IndexBlocks) (i : ℕ) (ns : List ℕ) → AreExtents l.key_length c i ns l.blocks → 0 < l.index → IsExtent l.key_length l.extent (entries_below c i (take l.index ns));
}
