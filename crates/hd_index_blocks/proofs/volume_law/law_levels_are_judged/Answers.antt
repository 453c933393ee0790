use Rattle.hd_index_blocks.proofs.RowFaults.{levels-judged}
use Rattle.hd_index_blocks.proofs.volume_law.law_levels_are_judged.Goals as goal

pub returns : goal.returns
returns g = levels-judged
