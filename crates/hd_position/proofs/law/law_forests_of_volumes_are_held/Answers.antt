use Rattle.hd_position.proofs.VolumeMoves.{held}
use Rattle.hd_position.proofs.law.law_forests_of_volumes_are_held.Goals as goal

pub returns : goal.returns
returns c = held
