use Rattle.hd_index_blocks.proofs.Dividing.{last-between}
use Rattle.hd_index_blocks.proofs.law.law_last_keys_bound.Goals as goal

pub returns : goal.returns
returns g = last-between
