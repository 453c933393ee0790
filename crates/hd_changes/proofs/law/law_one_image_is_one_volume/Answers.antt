use Rattle.hd_changes.proofs.Rooms.{one-volume}
use Rattle.hd_changes.proofs.law.law_one_image_is_one_volume.Goals as goal

pub returns : goal.returns
returns c = one-volume
