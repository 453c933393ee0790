use Rattle.std.proofs.Common.{◌≡◌}
use Rattle.hd_check_index.specs.SetPhases.{OfIndexSet, OfItsRows}
use Rattle.hd_check_index.specs.Standings.{AreMarks, numbers_of}
use Rattle.hd_check_index.proofs.SetLists.{AreListedTo}
use Rattle.hd_check_index.proofs.reach.unmarked_faults.Given as goal

-- the blocks before that have no mark are listed
abbrev pub invariant-loop-i : goal.invariant-loop-i
invariant-loop-i l =
    OfIndexSet l.blocks (λ d v. l.size ≡ v.size → OfItsRows d v (λ rows. AreMarks l.blocks (numbers_of rows) l.marks → AreListedTo d v 10 l.blocks l.i l.faults.items))
