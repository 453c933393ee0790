use Rattle.hd_changes.proofs.Rooms.{first-roots, entries-room, root-room-lasts}
use Rattle.hd_changes.proofs.law.law_room_lasts_for_roots.Goals as goal

pub returns-clause-first : goal.returns-clause-first
returns-clause-first c = first-roots

pub returns-clause-entry : goal.returns-clause-entry
returns-clause-entry c = entries-room

pub returns-clause-lasts : goal.returns-clause-lasts
returns-clause-lasts c = root-room-lasts
