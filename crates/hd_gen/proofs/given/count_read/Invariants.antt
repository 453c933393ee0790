use Rattle.std.proofs.Common.{◌≡◌, take, drop}
use Rattle.hd_gen.specs.Refused.{read_from, count_read}
use Rattle.hd_gen.proofs.given.count_read.Given as goal

-- what is left of the list gives the answer of all of it
abbrev pub invariant-loop-place : goal.invariant-loop-place
invariant-loop-place l =
    read_from l.context l.operation l.line l.place (take l.place l.operands) l.given (drop l.place l.operands) ≡ count_read l.context l.operation l.line l.operands
