use Rattle.std.proofs.Common.{ℕ, Ok, length, ◌<◌}
use Rattle.hd_dbd.specs.Forest.{Forest}
use Rattle.hd_volume.specs.Calls.{IsRead}
use Rattle.hd_links.specs.Placed.{Placed}
use Rattle.hd_get.specs.Searches.{IsThere, IsPathOf}
use Rattle.hd_get.proofs.Climbs.{HasClimbed}
use Rattle.hd_get.proofs.steps.across.Given as goal

-- it has read, stands on a row as long as its path is not empty, and has climbed from the row where it began
abbrev pub invariant-loop-path : goal.invariant-loop-path
invariant-loop-path g l = record {
  read : IsRead {T = ℕ} l.fn.volume (Ok 0) l.volume;
  there : 0 < length l.path → IsThere l.dbd l.fn.volume l.path;
  climbed : (f : Forest Placed) (i : ℕ) → IsPathOf l.dbd l.fn.volume f l.fn.path i → HasClimbed l.dbd.types f l.parent i l.path;
}

abbrev pub decreases-loop-path : goal.decreases-loop-path
decreases-loop-path g l = length l.path
