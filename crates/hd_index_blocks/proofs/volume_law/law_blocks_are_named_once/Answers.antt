use Rattle.hd_index_blocks.proofs.Volumes.{named-once}
use Rattle.hd_index_blocks.proofs.volume_law.law_blocks_are_named_once.Goals as goal

pub returns : goal.returns
returns g = named-once
