use Rattle.hd_changes.proofs.VolumeImages.{hold-rows, have-room}
use Rattle.hd_changes.proofs.law.law_volumes_are_images.Goals as goal

pub returns-clause-rows : goal.returns-clause-rows
returns-clause-rows c = hold-rows

pub returns-clause-room : goal.returns-clause-room
returns-clause-room c = have-room
