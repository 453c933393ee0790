use Rattle.hd_image.proofs.NoFault.{no-fault}
use Rattle.hd_image.proofs.law.law_held_forests_have_no_fault.Goals as goal

pub returns : goal.returns
returns c = no-fault
