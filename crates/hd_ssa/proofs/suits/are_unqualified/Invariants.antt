use Rattle.std.proofs.Common.{◌≡◌, drop}
use Rattle.hd_ssa.specs.AtOnce.{are_unqualified}
use Rattle.hd_ssa.proofs.suits.are_unqualified.Given as goal

-- the arguments that are left give the answer of all
abbrev pub invariant-loop-ssa : goal.invariant-loop-ssa
invariant-loop-ssa l = are_unqualified (drop l.ssa-index l.ssas) ≡ are_unqualified l.ssas
