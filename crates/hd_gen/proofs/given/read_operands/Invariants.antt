use Rattle.std.proofs.Common.{◌≡◌, take, drop}
use Rattle.hd_gen.specs.Operands.{given_from, given}
use Rattle.hd_gen.proofs.given.read_operands.Given as goal

-- what is left of the list gives the answer of all of it
abbrev pub invariant-loop-place : goal.invariant-loop-place
invariant-loop-place l =
    given_from l.context l.operation l.line (take l.place l.operands) l.given (drop l.place l.operands) ≡ given l.context l.operation l.line l.operands
