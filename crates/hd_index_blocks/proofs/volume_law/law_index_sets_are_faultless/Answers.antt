use Rattle.hd_index_blocks.proofs.Faultless.{sets-faultless}
use Rattle.hd_index_blocks.proofs.volume_law.law_index_sets_are_faultless.Goals as goal

pub returns : goal.returns
returns g = sets-faultless
