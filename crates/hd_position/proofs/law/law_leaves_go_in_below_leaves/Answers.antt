use Rattle.hd_position.proofs.Leaves.{leaves_below}
use Rattle.hd_position.proofs.law.law_leaves_go_in_below_leaves.Goals as goal

pub returns : goal.returns
returns c = leaves_below
