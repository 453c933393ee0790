use Rattle.hd_index_blocks.proofs.Levels.{set-stays}
use Rattle.hd_index_blocks.proofs.law.law_lower_levels_stay.Goals as goal

pub returns : goal.returns
returns g c d l i ns lower less set = set-stays c d l lower i less ns set
