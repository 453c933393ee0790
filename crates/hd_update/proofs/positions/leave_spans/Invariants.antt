use Rattle.std.proofs.Common.{◌≡◌, ◌++◌, take, drop}
use Rattle.std.specs.Prelude.{map}
use Rattle.hd_position.specs.Kept.{without_row}
use Rattle.hd_update.proofs.positions.leave_spans.Given as goal

abbrev pub invariant-loop-place : goal.invariant-loop-place
invariant-loop-place l = l.positions ≡ map (λ k. without_row l.address l.level l.before k) (take l.place l.fn.positions) ++ drop l.place l.fn.positions
