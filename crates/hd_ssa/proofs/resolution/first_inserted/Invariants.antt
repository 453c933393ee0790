use Rattle.std.proofs.Common.{◌≡◌, drop, map}
use Rattle.hd_calls.specs.Ssas.{first_inserted_from, first_inserted_head}
use Rattle.hd_ssa.specs.Named.{heads_in}
use Rattle.hd_ssa.proofs.resolution.first_inserted.Given as goal

-- the heads that are left give the place among all
abbrev pub invariant-loop-place : goal.invariant-loop-place
invariant-loop-place l = first_inserted_from l.place (map (λ h. h.commands) (heads_in (drop l.place l.heads))) ≡ first_inserted_head (heads_in l.heads)
