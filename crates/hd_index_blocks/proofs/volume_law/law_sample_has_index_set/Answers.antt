use Rattle.hd_index_blocks.proofs.WorkedVolumes.{sample-has}
use Rattle.hd_index_blocks.proofs.volume_law.law_sample_has_index_set.Goals as goal

pub returns : goal.returns
returns g = sample-has
