use Rattle.hd_index_blocks.proofs.Volumes.{entries-below}
use Rattle.hd_index_blocks.proofs.volume_law.law_index_entries_are_below.Goals as goal

pub returns : goal.returns
returns g = entries-below
