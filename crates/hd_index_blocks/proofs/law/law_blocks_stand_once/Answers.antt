use Rattle.hd_index_blocks.proofs.Sets.{blocks-once}
use Rattle.hd_index_blocks.proofs.law.law_blocks_stand_once.Goals as goal

pub returns : goal.returns
returns g = blocks-once
