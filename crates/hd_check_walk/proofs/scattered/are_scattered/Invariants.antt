use Rattle.std.proofs.Common.{ℕ, Ok}
use Rattle.hd_volume.specs.Calls.{IsRead}
use Rattle.hd_check_walk.proofs.scattered.are_scattered.Given as goal

-- the volume was only read
abbrev pub invariant-loop-sample : goal.invariant-loop-sample
invariant-loop-sample g l = IsRead {T = ℕ} l.fn.volume (Ok 0) l.volume
