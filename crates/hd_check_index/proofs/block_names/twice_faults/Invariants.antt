use Rattle.std.proofs.Common.{ℕ}
use Rattle.std.specs.List.Sorted.{IsPermutation, IsNonDecreasing}
use Rattle.hd_check_index.specs.IndexPhases.{OfRightBlocks, names_of}
use Rattle.hd_check_index.proofs.ChainLists.{AreListedTo}
use Rattle.hd_check_index.proofs.block_names.twice_faults.Given as goal

-- the blocks before that are named twice are listed
abbrev pub invariant-loop-block : goal.invariant-loop-block
invariant-loop-block l =
    IsNonDecreasing l.names → (top : ℕ) → OfRightBlocks l.blocks top l.size (λ d v. IsPermutation (names_of top l.blocks) l.names → AreListedTo d v 9 l.blocks l.block-index l.faults.items)
