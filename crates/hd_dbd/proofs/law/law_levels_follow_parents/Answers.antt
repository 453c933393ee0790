use Rattle.hd_dbd.proofs.LevelLaw.{parents_earlier, level_above}
use Rattle.hd_dbd.proofs.law.law_levels_follow_parents.Goals as goal

pub returns : goal.returns
returns c block_size frspc types code t formed is =
    level_above types code t (parents_earlier block_size frspc types code t formed is) is
