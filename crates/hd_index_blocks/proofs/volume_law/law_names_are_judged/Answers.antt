use Rattle.hd_index_blocks.proofs.LevelFaults.{names-judged}
use Rattle.hd_index_blocks.proofs.volume_law.law_names_are_judged.Goals as goal

pub returns : goal.returns
returns g = names-judged
