use Rattle.hd_index_blocks.proofs.Chains.{linked-out}
use Rattle.hd_index_blocks.proofs.law.law_chains_lose_blocks.Goals as goal

pub returns : goal.returns
returns g = linked-out
