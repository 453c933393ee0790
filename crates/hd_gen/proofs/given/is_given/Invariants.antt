use Rattle.std.proofs.Common.{◌≡◌, drop}
use Rattle.hd_gen.specs.Operands.{is_given}
use Rattle.hd_gen.proofs.given.is_given.Given as goal

-- what is left of the list gives the answer of all of it
abbrev pub invariant-loop-other : goal.invariant-loop-other
invariant-loop-other l = is_given l.operation (drop l.other-index l.before) l.operand ≡ is_given l.operation l.before l.operand
