use Rattle.hd_index_blocks.proofs.FormFaults.{forms-judged}
use Rattle.hd_index_blocks.proofs.volume_law.law_forms_are_judged.Goals as goal

pub returns : goal.returns
returns g = forms-judged
