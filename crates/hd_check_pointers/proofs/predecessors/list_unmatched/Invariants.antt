use Rattle.std.proofs.Common.{◌≡◌, ◌++◌, drop}
use Rattle.hd_check_pointers.specs.Listed.{all_unmatched}
use Rattle.hd_check_pointers.proofs.predecessors.list_unmatched.Given as goal

-- what is listed, with what is wrong with the places that are left, is all
abbrev pub invariant-loop-place : goal.invariant-loop-place
invariant-loop-place l = l.faults.items ++ all_unmatched (drop l.place-index l.places) (drop l.i l.namings) ≡ l.fn.faults.items ++ all_unmatched l.places l.namings
