use Rattle.hd_index_blocks.proofs.Volumes.{levels-are}
use Rattle.hd_index_blocks.proofs.volume_law.law_levels_are_of_index_blocks.Goals as goal

pub returns : goal.returns
returns g = levels-are
