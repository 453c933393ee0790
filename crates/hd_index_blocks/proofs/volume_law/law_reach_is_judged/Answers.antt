use Rattle.hd_index_blocks.proofs.LevelFaults.{reach-judged}
use Rattle.hd_index_blocks.proofs.volume_law.law_reach_is_judged.Goals as goal

pub returns : goal.returns
returns g = reach-judged
