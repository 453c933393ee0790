use Rattle.hd_index_blocks.proofs.Dividing.{topped}
use Rattle.hd_index_blocks.proofs.law.law_tops_may_be_added.Goals as goal

pub returns : goal.returns
returns g = topped
