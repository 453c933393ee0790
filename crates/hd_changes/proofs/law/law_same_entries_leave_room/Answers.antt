use Rattle.hd_changes.proofs.Rooms.{same-entries-leave-room}
use Rattle.hd_changes.proofs.law.law_same_entries_leave_room.Goals as goal

pub returns : goal.returns
returns c = same-entries-leave-room
