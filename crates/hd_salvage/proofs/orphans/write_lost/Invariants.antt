use Rattle.std.proofs.Common.{ℕ, Ok}
use Rattle.hd_volume.specs.Calls.{IsRead}
use Rattle.hd_salvage.proofs.orphans.write_lost.Given as goal

-- the rows before are written, and nothing is changed
abbrev pub invariant-loop-record : goal.invariant-loop-record
invariant-loop-record g l = IsRead {T = ℕ} l.fn.volume (Ok 0) l.volume
