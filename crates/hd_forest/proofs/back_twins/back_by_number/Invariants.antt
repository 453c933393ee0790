use Rattle.std.proofs.Common.{◌≡◌}
use Rattle.hd_forest.specs.BackTwins.{twin_back, AreNotBelowIn}
use Rattle.hd_forest.proofs.back_twins.back_by_number.Given as goal

-- it has gone back over so many twins
abbrev pub invariant-loop-count : goal.invariant-loop-count
invariant-loop-count l = record {
  passed : AreNotBelowIn l.places l.backward l.block l.start l.key l.count l.address;
  twin : l.twin ≡ twin_back l.backward l.block l.start l.count l.address;
}
