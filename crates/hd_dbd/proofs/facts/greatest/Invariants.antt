use Rattle.std.proofs.Common.{◌≡◌, drop, max}
use Rattle.hd_dbd.specs.Hierarchy.{greatest}
use Rattle.hd_dbd.proofs.facts.greatest.Given as goal

abbrev pub invariant-loop-number : goal.invariant-loop-number
invariant-loop-number l = max l.most (greatest (drop l.number-index l.numbers)) ≡ greatest l.numbers
