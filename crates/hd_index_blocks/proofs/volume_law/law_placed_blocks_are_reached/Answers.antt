use Rattle.hd_index_blocks.proofs.Parents.{placed-reached}
use Rattle.hd_index_blocks.proofs.volume_law.law_placed_blocks_are_reached.Goals as goal

pub returns : goal.returns
returns g = placed-reached
