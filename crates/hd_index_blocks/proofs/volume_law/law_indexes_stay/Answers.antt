use Rattle.hd_index_blocks.proofs.StayingSets.{indexes-stay}
use Rattle.hd_index_blocks.proofs.volume_law.law_indexes_stay.Goals as goal

pub returns : goal.returns
returns g = indexes-stay
