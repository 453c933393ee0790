use Rattle.std.proofs.Common.{◌≡◌}
use Rattle.hd_dbd.specs.Hierarchy.{is_under, is_under_within}
use Rattle.hd_dbd.proofs.database.Dbd.is_under.Given as goal

abbrev pub decreases-loop-levels : goal.decreases-loop-levels
decreases-loop-levels l = l.levels

abbrev pub invariant-loop-levels : goal.invariant-loop-levels
invariant-loop-levels l = is_under_within l.self.types l.levels l.below l.above ≡ is_under l.self.types l.code l.above
