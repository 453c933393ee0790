use Rattle.hd_index_blocks.proofs.Chains.{linked-new}
use Rattle.hd_index_blocks.proofs.law.law_chains_take_blocks.Goals as goal

pub returns : goal.returns
returns g = linked-new
