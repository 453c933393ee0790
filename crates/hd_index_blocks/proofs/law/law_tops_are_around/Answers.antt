use Rattle.hd_index_blocks.proofs.Descents.{top-around}
use Rattle.hd_index_blocks.proofs.law.law_tops_are_around.Goals as goal

pub returns : goal.returns
returns g = top-around
