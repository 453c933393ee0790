use Rattle.hd_links.proofs.Types.{ordered}
use Rattle.hd_links.proofs.Faulty.{faulty}
use Rattle.hd_links.proofs.law.law_faulty_records_hold_none.Goals as goal

pub returns : goal.returns
returns c block_size frspc types bound m formed graph = faulty types (ordered block_size frspc types formed) bound m graph
