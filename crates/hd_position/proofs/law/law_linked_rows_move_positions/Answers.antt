use Rattle.hd_position.proofs.VolumeMoves.{linked_move}
use Rattle.hd_position.proofs.law.law_linked_rows_move_positions.Goals as goal

pub returns : goal.returns
returns c = linked_move
