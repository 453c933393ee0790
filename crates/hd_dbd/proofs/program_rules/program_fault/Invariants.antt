use Rattle.std.proofs.Common.{◌≡◌, ◌+◌, drop, length}
use Rattle.hd_dbd.specs.ProgramFaults.{fault_from}
use Rattle.hd_dbd.proofs.program_rules.program_fault.Given as goal

-- what is left of the list gives the answer of all of it
abbrev pub invariant-loop-place : goal.invariant-loop-place
invariant-loop-place l =
    fault_from l.names (length l.pcbs) (l.place + 1) (drop l.place l.pcbs) ≡ fault_from l.names (length l.pcbs) 1 l.pcbs
