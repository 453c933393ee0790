-- What a volume holds after a call that only read.
use Rattle.std.proofs.Common.{IsTrue, Ok}
use Rattle.hd_dbd.specs.Hierarchy.{Database}
use Rattle.hd_dbd.specs.Forest.{Forest}
use Rattle.hd_volume.specs.Volumes.{VolumeState}
use Rattle.hd_volume.specs.Calls.{IsRead}
use Rattle.hd_links.specs.Placed.{Placed}
use Rattle.hd_image.specs.Holding.{HoldsPlaced}
use Rattle.hd_image.proofs.OneImage.{held-same}
use Rattle.hd_index.specs.Changes.{IsLater}
use Rattle.hd_index.proofs.ChangeLemmas.{later-image}
use Rattle.hd_forest.proofs.Reading.{after-read}

-- the same forest
pub held_read : {A : Type 0} {x : A} (d : Database) (u v : VolumeState) → IsRead {T = A} u (Ok x) v → IsTrue u.is_sound → (f : Forest Placed) → HoldsPlaced d u f → HoldsPlaced d v f
held_read d u v read sound f holds = held-same d u v (after-read d u v read sound).image read.call.size read.call.sizes f holds

-- and is of version 2 or later, as it was
pub later_read : {A : Type 0} {x : A} (d : Database) (u v : VolumeState) → IsRead {T = A} u (Ok x) v → IsTrue u.is_sound → IsLater u → IsLater v
later_read d u v read sound = later-image u v (after-read d u v read sound).image
