use Rattle.hd_links.proofs.Types.{ordered}
use Rattle.hd_links.proofs.Ends.{chain_ends}
use Rattle.hd_links.proofs.law.law_chains_end.Goals as goal

pub returns : goal.returns
returns c block_size frspc types bound m h t formed graph typed single here child some =
    chain_ends types (ordered block_size frspc types formed) bound m graph typed single h t here child some
