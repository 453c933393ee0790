use Rattle.hd_dbd.proofs.LevelLaw.{leveled}
use Rattle.hd_dbd.proofs.Twins.{twins_ascend}
use Rattle.hd_dbd.proofs.law.law_twins_ascend.Goals as goal

pub returns : goal.returns
returns c block_size frspc types rows i j formed valid before within twins =
    twins_ascend types (leveled block_size frspc types formed) rows i j valid before within twins
