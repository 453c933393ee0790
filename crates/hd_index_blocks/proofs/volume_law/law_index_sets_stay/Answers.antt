use Rattle.hd_index_blocks.proofs.StayingSets.{index-sets-stay}
use Rattle.hd_index_blocks.proofs.volume_law.law_index_sets_stay.Goals as goal

pub returns : goal.returns
returns g = index-sets-stay
