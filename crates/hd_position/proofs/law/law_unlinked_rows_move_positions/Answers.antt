use Rattle.hd_position.proofs.VolumeMoves.{unlinked_move}
use Rattle.hd_position.proofs.law.law_unlinked_rows_move_positions.Goals as goal

pub returns : goal.returns
returns c = unlinked_move
