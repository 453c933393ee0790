use Rattle.hd_index_blocks.proofs.Staying.{way-stays}
use Rattle.hd_index_blocks.proofs.law.law_ways_down_stay.Goals as goal

pub returns : goal.returns
returns g = way-stays
