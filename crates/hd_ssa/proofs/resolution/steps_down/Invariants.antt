use Rattle.std.proofs.Common.{◌≡◌, drop, None}
use Rattle.hd_calls.specs.Ssas.{steps_down}
use Rattle.hd_ssa.proofs.resolution.steps_down.Given as goal

-- the types that are left give the answer of all
abbrev pub invariant-loop-code : goal.invariant-loop-code
invariant-loop-code l = steps_down l.dbd.types l.above (drop l.code-index l.codes) ≡ steps_down l.dbd.types None l.codes
