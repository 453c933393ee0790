use Rattle.std.proofs.Common.{◌≡◌}
use Rattle.std.specs.List.Sorted.{IsPermutation, IsNonDecreasing}
use Rattle.hd_check_index.specs.SetPhases.{OfFormedSet, set_names}
use Rattle.hd_check_index.proofs.SetLists.{AreListedTo}
use Rattle.hd_check_index.proofs.names.twice_faults.Given as goal

-- the blocks before that are named twice are listed
abbrev pub invariant-loop-block : goal.invariant-loop-block
invariant-loop-block l =
    IsNonDecreasing l.names
    → OfFormedSet l.blocks (λ d v. l.size ≡ v.size → IsPermutation (set_names d v l.blocks) l.names → AreListedTo d v 9 l.blocks l.block-index l.faults.items)
