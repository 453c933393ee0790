use Rattle.hd_index_blocks.proofs.Neighbours.{left-named}
use Rattle.hd_index_blocks.proofs.volume_law.law_left_neighbours_are_named.Goals as goal

pub returns : goal.returns
returns g = left-named
