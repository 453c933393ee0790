use Rattle.hd_index_blocks.proofs.Entering.{entered}
use Rattle.hd_index_blocks.proofs.law.law_entries_enter.Goals as goal

pub returns : goal.returns
returns g = entered
