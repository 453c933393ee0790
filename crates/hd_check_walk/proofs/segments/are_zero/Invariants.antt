use Rattle.std.proofs.Common.{◌+◌, ◌*◌}
use Rattle.hd_check_walk.specs.Reading.{AreZero}
use Rattle.hd_check_walk.proofs.segments.are_zero.Given as goal

-- the bytes so far are 0
abbrev pub invariant-loop-index : goal.invariant-loop-index
invariant-loop-index l = AreZero l.segment l.start (l.start + 4 * l.index)
