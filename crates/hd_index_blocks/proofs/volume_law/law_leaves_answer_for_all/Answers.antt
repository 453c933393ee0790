use Rattle.hd_index_blocks.proofs.LeafAnswers.{leaves-answer-all}
use Rattle.hd_index_blocks.proofs.volume_law.law_leaves_answer_for_all.Goals as goal

pub returns : goal.returns
returns g = leaves-answer-all
