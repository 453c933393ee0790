use Rattle.std.proofs.Common.{◌≡◌, ◌++◌, length, drop}
use Rattle.hd_update.specs.Paths.{path_up_to}
use Rattle.hd_update.proofs.paths.path_up_to.Given as goal

abbrev pub invariant-loop-own : goal.invariant-loop-own
invariant-loop-own l = record {
  so_far : l.part ++ path_up_to l.address (drop l.own-index l.own-items) ≡ path_up_to l.address l.own-items;
  few : length l.part ≡ l.own-index;
}
