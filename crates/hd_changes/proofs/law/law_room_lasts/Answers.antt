use Rattle.hd_changes.proofs.Rooms.{first-rows, room-lasts}
use Rattle.hd_changes.proofs.law.law_room_lasts.Goals as goal

pub returns-clause-first : goal.returns-clause-first
returns-clause-first c = first-rows

pub returns-clause-lasts : goal.returns-clause-lasts
returns-clause-lasts c = room-lasts
