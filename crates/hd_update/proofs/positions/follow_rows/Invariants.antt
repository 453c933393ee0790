use Rattle.std.proofs.Common.{◌≡◌, drop}
use Rattle.hd_update.specs.Positions.{after_rewrites}
use Rattle.hd_update.proofs.positions.follow_rows.Given as goal

abbrev pub invariant-loop-place : goal.invariant-loop-place
invariant-loop-place l = after_rewrites (drop l.place l.rows) l.position ≡ after_rewrites l.rows l.fn.position
