use Rattle.std.proofs.Common.{◌≡◌, ◌+◌, drop}
use Rattle.hd_dbd.specs.DatabaseFaults.{types_fault_from}
use Rattle.hd_dbd.proofs.rules.types_fault.Given as goal

-- what is left of the list gives the answer of all of it
abbrev pub invariant-loop-place : goal.invariant-loop-place
invariant-loop-place l =
    types_fault_from l.block_size l.types (l.place + 1) (drop l.place l.types) ≡ types_fault_from l.block_size l.types 1 l.types
