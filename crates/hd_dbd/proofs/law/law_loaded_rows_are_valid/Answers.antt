use Rattle.hd_dbd.proofs.LevelLaw.{leveled}
use Rattle.hd_dbd.proofs.Loading.{loaded_valid}
use Rattle.hd_dbd.proofs.law.law_loaded_rows_are_valid.Goals as goal

pub returns : goal.returns
returns c block_size frspc types rows new formed valid fits = loaded_valid types (leveled block_size frspc types formed) rows new valid fits
