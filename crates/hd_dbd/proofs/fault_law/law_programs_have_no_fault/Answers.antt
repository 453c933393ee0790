use Rattle.hd_dbd.proofs.Faults.{program_agrees}
use Rattle.hd_dbd.proofs.fault_law.law_programs_have_no_fault.Goals as goal

pub returns : goal.returns
returns c = program_agrees
