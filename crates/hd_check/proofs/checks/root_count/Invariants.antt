use Rattle.std.proofs.Common.{◌≡◌, ◌+◌, ◌≤◌, drop}
use Rattle.hd_check.specs.Joining.{roots_among}
use Rattle.hd_check.proofs.checks.root_count.Given as goal

-- what is counted, with the roots that are left, are all roots, and no more than the places before are counted
abbrev pub invariant-loop-place : goal.invariant-loop-place
invariant-loop-place l = record {
  counted : l.count + roots_among (drop l.place-index l.places) ≡ roots_among l.places;
  few : l.count ≤ l.place-index;
}
