use Rattle.std.proofs.Common.{◌≡◌, drop, map}
use Rattle.hd_calls.specs.Ssas.{first_inserted_from, first_inserted}
use Rattle.hd_ssa.proofs.suits.first_inserted.Given as goal

-- the arguments that are left give the place among all
abbrev pub invariant-loop-place : goal.invariant-loop-place
invariant-loop-place l = first_inserted_from l.place (map (λ a. a.commands) (drop l.place l.ssas)) ≡ first_inserted l.ssas
