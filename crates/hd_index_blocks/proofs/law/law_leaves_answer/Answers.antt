use Rattle.hd_index_blocks.proofs.Descents.{around-answers}
use Rattle.hd_index_blocks.proofs.law.law_leaves_answer.Goals as goal

pub returns : goal.returns
returns g = around-answers
