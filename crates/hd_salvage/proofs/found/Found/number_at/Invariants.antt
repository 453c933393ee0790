use Rattle.std.proofs.Common.{ℕ, ◌-◌}
use Rattle.hd_salvage.proofs.found.Found.number_at.Given as goal

-- what is left to look at grows less
abbrev pub decreases-loop-low : goal.decreases-loop-low
decreases-loop-low l = l.high - l.low
