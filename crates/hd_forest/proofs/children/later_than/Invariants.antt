use Rattle.std.proofs.Common.{◌≡◌, drop}
use Rattle.hd_links.specs.Steps.{later_than}
use Rattle.hd_forest.proofs.children.later_than.Given as goal

abbrev pub invariant-loop-place : goal.invariant-loop-place
invariant-loop-place l = later_than l.code (drop l.place l.types) ≡ later_than l.code l.types
