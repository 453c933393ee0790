use Rattle.hd_image.proofs.RightHolds.{right-holds}
use Rattle.hd_image.proofs.law.law_right_volumes_hold_a_forest.Goals as goal

pub returns : goal.returns
returns c = right-holds
