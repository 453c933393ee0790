use Rattle.std.proofs.Common.{ℕ, List}
use Rattle.std.specs.List.Sorted.{IsPermutation, IsNonDecreasing}
use Rattle.hd_check_index.specs.IndexPhases.{OfNamedRoots}
use Rattle.hd_check_index.proofs.NameLists.{AreRootsTo}
use Rattle.hd_check_index.proofs.unnamed_roots.root_faults.Given as goal

-- the roots before that no entry names are listed
abbrev pub invariant-loop-place : goal.invariant-loop-place
invariant-loop-place l =
    IsNonDecreasing l.named → (old : List ℕ) → OfNamedRoots l.places old (λ d v. IsPermutation old l.named → AreRootsTo d v l.places l.place-index l.faults.items)
