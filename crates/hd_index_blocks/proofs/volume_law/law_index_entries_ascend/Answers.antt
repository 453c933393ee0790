use Rattle.hd_index_blocks.proofs.Volumes.{entries-ascend}
use Rattle.hd_index_blocks.proofs.volume_law.law_index_entries_ascend.Goals as goal

pub returns : goal.returns
returns g = entries-ascend
