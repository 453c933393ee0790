use Rattle.hd_index_blocks.proofs.Volumes.{index-blocks-right}
use Rattle.hd_index_blocks.proofs.volume_law.law_index_blocks_are_right.Goals as goal

pub returns : goal.returns
returns g = index-blocks-right
