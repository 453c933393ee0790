use Rattle.hd_changes.proofs.Rooms.{set-rows-leave-room}
use Rattle.hd_changes.proofs.law.law_set_rows_leave_room.Goals as goal

pub returns : goal.returns
returns c = set-rows-leave-room
