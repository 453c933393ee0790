use Rattle.hd_index_blocks.proofs.Incoming.{greatest-near}
use Rattle.hd_index_blocks.proofs.law.law_greatest_keys_are_near.Goals as goal

pub returns : goal.returns
returns g = greatest-near
