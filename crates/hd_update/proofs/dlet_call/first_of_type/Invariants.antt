use Rattle.std.proofs.Common.{◌≡◌, drop}
use Rattle.std.specs.Prelude.{find, ◌==◌}
use Rattle.hd_update.proofs.dlet_call.first_of_type.Given as goal

abbrev pub invariant-loop-row : goal.invariant-loop-row
invariant-loop-row l = find (λ h. h.code == l.code) (drop l.row-index l.held) ≡ find (λ h. h.code == l.code) l.held
