use Rattle.hd_index_blocks.proofs.Unlinking.{chains-linked}
use Rattle.hd_index_blocks.proofs.law.law_chains_stay_linked.Goals as goal

pub returns : goal.returns
returns g = chains-linked
