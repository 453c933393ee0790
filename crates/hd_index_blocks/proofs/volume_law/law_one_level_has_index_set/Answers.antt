use Rattle.hd_index_blocks.proofs.WorkedVolumes.{one-has}
use Rattle.hd_index_blocks.proofs.volume_law.law_one_level_has_index_set.Goals as goal

pub returns : goal.returns
returns g = one-has
