use Rattle.hd_index_blocks.proofs.Leaving.{left_out}
use Rattle.hd_index_blocks.proofs.law.law_entries_leave.Goals as goal

pub returns : goal.returns
returns g = left_out
