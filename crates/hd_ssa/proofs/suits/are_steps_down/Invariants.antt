use Rattle.std.proofs.Common.{◌≡◌, drop, map}
use Rattle.hd_calls.specs.Ssas.{steps_down}
use Rattle.hd_ssa.specs.AtOnce.{are_steps_down}
use Rattle.hd_ssa.proofs.suits.are_steps_down.Given as goal

-- the types that are left give the answer of all
abbrev pub invariant-loop-ssa : goal.invariant-loop-ssa
invariant-loop-ssa l = steps_down l.dbd.types l.above (map (λ a. a.code) (drop l.ssa-index l.ssas)) ≡ are_steps_down l.dbd.types l.ssas
