use Rattle.std.proofs.Common.{◌≡◌, ◌++◌, None, drop}
use Rattle.hd_check_index.specs.Listed.{each_once}
use Rattle.hd_check_index.proofs.listed.each_once.Given as goal

-- with those of the faults behind these are those of all
abbrev pub invariant-loop-fault : goal.invariant-loop-fault
invariant-loop-fault l = l.faults.items ++ each_once l.before (drop l.fault-index l.sorted) ≡ each_once None l.sorted
