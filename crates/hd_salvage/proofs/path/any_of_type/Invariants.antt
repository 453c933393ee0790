use Rattle.std.proofs.Common.{◌≡◌, drop}
use Rattle.std.specs.Prelude.{◌==◌}
use Rattle.std.specs.List.{list_any}
use Rattle.hd_salvage.proofs.path.any_of_type.Given as goal

-- what is left tells of all
abbrev pub invariant-loop-row : goal.invariant-loop-row
invariant-loop-row l = list_any (λ r. r.code == l.code) (drop l.row-index l.rows) ≡ list_any (λ r. r.code == l.code) l.rows
