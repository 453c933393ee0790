use Rattle.std.proofs.Common.{◌≡◌, drop}
use Rattle.hd_dbd.specs.ProgramRules.{order_fits, ascends_from}
use Rattle.hd_dbd.proofs.program_rules.order_fits.Given as goal

-- what is left of the list gives the answer of all of it
abbrev pub invariant-loop-sens : goal.invariant-loop-sens
invariant-loop-sens l = ascends_from l.names l.last (drop l.sens-index l.pcb.sens) ≡ order_fits l.names l.pcb
