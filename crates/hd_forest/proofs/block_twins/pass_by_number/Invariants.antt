use Rattle.std.proofs.Common.{◌≡◌}
use Rattle.hd_forest.specs.BlockTwins.{twin_in, twin_before, AreBelowIn}
use Rattle.hd_forest.proofs.block_twins.pass_by_number.Given as goal

-- it has passed over so many twins
abbrev pub invariant-loop-count : goal.invariant-loop-count
invariant-loop-count l = record {
  below : AreBelowIn l.places l.block l.start l.key l.count l.address;
  twin : l.twin ≡ twin_in l.places l.block l.start l.count l.address;
  before : l.before ≡ twin_before l.places l.block l.start l.count l.behind l.address;
}
