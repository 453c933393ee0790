use Rattle.std.proofs.Common.{◌≡◌, drop}
use Rattle.hd_check_pointers.specs.Listed.{behind}
use Rattle.hd_check_pointers.proofs.predecessors.behind.Given as goal

-- what is behind those in front is behind those that are left
abbrev pub invariant-loop-i : goal.invariant-loop-i
invariant-loop-i l = behind l.address (drop l.i l.namings) ≡ behind l.address (drop l.first l.namings)
