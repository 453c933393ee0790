use Rattle.hd_index_blocks.proofs.Volumes.{tops-right}
use Rattle.hd_index_blocks.proofs.volume_law.law_index_tops_are_right.Goals as goal

pub returns : goal.returns
returns g = tops-right
