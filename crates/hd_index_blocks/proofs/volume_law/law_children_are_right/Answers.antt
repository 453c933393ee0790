use Rattle.hd_index_blocks.proofs.Volumes.{children-right}
use Rattle.hd_index_blocks.proofs.volume_law.law_children_are_right.Goals as goal

pub returns : goal.returns
returns g = children-right
