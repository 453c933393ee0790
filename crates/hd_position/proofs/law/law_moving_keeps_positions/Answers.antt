use Rattle.hd_position.proofs.Moving.{moving_keeps}
use Rattle.hd_position.proofs.law.law_moving_keeps_positions.Goals as goal

pub returns : goal.returns
returns c = moving_keeps
