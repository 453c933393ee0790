use Rattle.hd_position.proofs.VolumeMoves.{linked_below}
use Rattle.hd_position.proofs.law.law_linked_paths_go_in_together.Goals as goal

pub returns : goal.returns
returns c = linked_below
