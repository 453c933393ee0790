use Rattle.std.proofs.Common.{ℕ, ◌<◌, Ok}
use Rattle.hd_dbd.specs.Forest.{Forest}
use Rattle.hd_volume.specs.Calls.{IsRead}
use Rattle.hd_links.specs.Placed.{Placed}
use Rattle.hd_get.specs.Searches.{IsPathOf}
use Rattle.hd_get.specs.Meeting.{IsStored}
use Rattle.hd_get.proofs.LastTwins.{HasLooked}
use Rattle.hd_get.proofs.twin_tests.later_twins_fail.Given as goal

-- it has read, and none of the twins looked at has the qualification
abbrev pub invariant-loop-count : goal.invariant-loop-count
invariant-loop-count g l = record {
  read : IsRead {T = ℕ} l.fn.volume (Ok 0) l.volume;
  there : 0 < l.twin → IsStored l.dbd l.fn.volume l.twin;
  looked : (f : Forest Placed) (i : ℕ) → IsPathOf l.dbd l.fn.volume f l.path i → HasLooked l.dbd.types f l.ssa i l.count l.twin;
}
