use Rattle.hd_dbd.proofs.Faults.{database_agrees}
use Rattle.hd_dbd.proofs.fault_law.law_databases_have_no_fault.Goals as goal

pub returns : goal.returns
returns c = database_agrees
