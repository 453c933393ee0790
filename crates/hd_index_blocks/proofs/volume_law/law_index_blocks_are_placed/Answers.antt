use Rattle.hd_index_blocks.proofs.Parents.{index-blocks-placed}
use Rattle.hd_index_blocks.proofs.volume_law.law_index_blocks_are_placed.Goals as goal

pub returns : goal.returns
returns g = index-blocks-placed
