use Rattle.std.proofs.Common.{ℕ, vec_len, subst, refl}
use Rattle.std.specs.Vec.{vec_capacity}
use Rattle.hd_volume.specs.Volumes.{VolumeState}
use Rattle.hd_volume.specs.Calls.{IsCall}
use Rattle.hd_volume.specs.Spaces.{volume_of, room_for}
use Rattle.hd_volume.proofs.SpacingLemmas.{memory-call}
use Rattle.hd_volume.proofs.volume.Volume.reserve.Goals as goal

pub returns-clause-call : goal.returns-clause-call
returns-clause-call g c =
    let room : ℕ = room_for c.self.inside.spacing c.self.inside.blocks.room (vec_len c.self.inside.space.contents) (vec_capacity c.self.inside.space.contents) in
    let v : VolumeState = volume_of c.self.inside.blocks c.self.inside.sizes.items c.self.inside.spacing room in
    let room2 : ℕ = room_for c.self.inside.spacing c.reserve_for-2.new.blocks.room (vec_len c.reserve_for-2.new.space.contents) (vec_capacity c.reserve_for-2.new.space.contents) in
    let w : VolumeState = volume_of c.reserve_for-2.new.blocks c.self.inside.sizes.items c.self.inside.spacing room2 in
    let P : VolumeState → Type 0 = λ u. IsCall {T = Unit {0}} u c.reserve_for-2.result w in
    let e = c.reserve_for-2.ensures in
    subst P c.self.view_is (memory-call {u = v} {w = w} c.reserve_for-2.result e.refusal e.failures e.sound e.committed e.size refl refl e.image)
