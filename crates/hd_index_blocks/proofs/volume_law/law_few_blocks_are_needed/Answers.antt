use Rattle.hd_index_blocks.proofs.Needs.{few-needed}
use Rattle.hd_index_blocks.proofs.volume_law.law_few_blocks_are_needed.Goals as goal

pub returns : goal.returns
returns g = few-needed
