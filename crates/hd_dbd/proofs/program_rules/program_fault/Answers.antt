use Rattle.std.proofs.Common.{◌≡◌, arith, sym, None}
use Rattle.std.proofs.lemmas.Grind.{common_steps}
use Rattle.hd_dbd.specs.ProgramFaults.{program_fault}
use Rattle.hd_dbd.proofs.Faults.{passes, program_agrees}
use Rattle.hd_dbd.proofs.program_rules.program_fault.Goals as goal

pub returns-clause-none : goal.returns-clause-none
returns-clause-none c =
    let none : None ≡ program_fault c.args.names.now c.args.pcbs.now = grind (arith, common_steps) in
    λ h. passes _ _ (program_agrees c.args.names.now c.args.pcbs.now) (sym none)
