use Rattle.std.proofs.Common.{◌≡◌, true}
use Rattle.hd_dbd.specs.Hierarchy.{is_under, is_under_within}
use Rattle.hd_calls.specs.Admits.{is_on_way}
use Rattle.hd_get.proofs.ways.way_down.Given as goal

abbrev pub decreases-loop-levels : goal.decreases-loop-levels
decreases-loop-levels l = l.levels

-- the type reached is on the way, and as many types above it as are left tell whether the target depends on the other type
abbrev pub invariant-loop-levels : goal.invariant-loop-levels
invariant-loop-levels l =
    (is_on_way l.dbd.types l.target l.below ≡ true) × (is_under_within l.dbd.types l.levels l.below l.code ≡ is_under l.dbd.types l.target l.code)
