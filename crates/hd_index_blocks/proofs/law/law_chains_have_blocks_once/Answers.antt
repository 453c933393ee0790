use Rattle.hd_index_blocks.proofs.Chains.{linked-once}
use Rattle.hd_index_blocks.proofs.law.law_chains_have_blocks_once.Goals as goal

pub returns : goal.returns
returns g = linked-once
