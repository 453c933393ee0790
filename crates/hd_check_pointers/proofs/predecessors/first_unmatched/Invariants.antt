use Rattle.std.proofs.Common.{◌≡◌, drop}
use Rattle.hd_check_pointers.specs.Namings.{first_unmatched}
use Rattle.hd_check_pointers.proofs.predecessors.first_unmatched.Given as goal

-- what is first among the places that are left is first among all
abbrev pub invariant-loop-i : goal.invariant-loop-i
invariant-loop-i l = first_unmatched (drop l.i l.places) (drop l.i l.namings) ≡ first_unmatched l.places l.namings
