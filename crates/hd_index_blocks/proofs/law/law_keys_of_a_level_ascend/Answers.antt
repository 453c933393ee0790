use Rattle.hd_index_blocks.proofs.Sets.{level-ascends, set-ascends}
use Rattle.hd_index_blocks.proofs.law.law_keys_of_a_level_ascend.Goals as goal

pub returns : goal.returns
returns g c l ns set = (level-ascends c l ns set, set-ascends c l ns set)
