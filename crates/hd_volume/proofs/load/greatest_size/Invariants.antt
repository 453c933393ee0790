use Rattle.std.proofs.Common.{◌≤◌}
use Rattle.hd_volume.proofs.load.greatest_size.Given as goal

abbrev pub invariant-loop-size : goal.invariant-loop-size
invariant-loop-size l = l.greatest ≤ 131080
