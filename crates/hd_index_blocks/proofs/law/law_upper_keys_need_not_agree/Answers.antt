use Rattle.hd_index_blocks.proofs.WorkedIndex.{agree-not}
use Rattle.hd_index_blocks.proofs.law.law_upper_keys_need_not_agree.Goals as goal

pub returns : goal.returns
returns g = agree-not
