use Rattle.std.proofs.Common.{◌≡◌, ◌++◌, take, drop}
use Rattle.std.specs.Prelude.{map}
use Rattle.hd_update.specs.Positions.{after_rewrites}
use Rattle.hd_update.proofs.positions.follow_all.Given as goal

abbrev pub invariant-loop-place : goal.invariant-loop-place
invariant-loop-place l = l.positions ≡ map (λ k. after_rewrites l.rows k) (take l.place l.fn.positions) ++ drop l.place l.fn.positions
