use Rattle.std.proofs.Common.{ℕ, Ok}
use Rattle.hd_volume.specs.Calls.{IsRead}
use Rattle.hd_show.proofs.parents.find_parents.Given as goal

-- the blocks before n are read, and nothing is changed
abbrev pub invariant-loop-n : goal.invariant-loop-n
invariant-loop-n g l = IsRead {T = ℕ} l.fn.volume (Ok 0) l.volume
