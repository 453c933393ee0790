use Rattle.std.proofs.Common.{◌≡◌, drop}
use Rattle.hd_links.specs.Steps.{tip_from}
use Rattle.hd_forest.proofs.read.last_of.Given as goal

abbrev pub invariant-loop-address : goal.invariant-loop-address
invariant-loop-address l = tip_from l.last (drop l.address-index l.addresses) ≡ tip_from 0 l.addresses
