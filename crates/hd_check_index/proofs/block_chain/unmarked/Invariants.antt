use Rattle.hd_check_index.specs.Marks.{AreMarkedBefore}
use Rattle.hd_check_index.proofs.block_chain.unmarked.Given as goal

-- the marks before are made
abbrev pub invariant-loop-i : goal.invariant-loop-i
invariant-loop-i l = AreMarkedBefore l.i l.marks
