use Rattle.hd_index_blocks.proofs.Unlinking.{levels-linked}
use Rattle.hd_index_blocks.proofs.law.law_levels_stay_linked.Goals as goal

pub returns : goal.returns
returns g = levels-linked
