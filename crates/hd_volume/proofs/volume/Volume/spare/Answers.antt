use Rattle.std.proofs.Common.{◌≡◌, ℕ, ◌-◌, vec_len, IsTrue, subst, sym, ap, ◌∙◌, arith}
use Rattle.std.specs.Vec.{vec_capacity}
use Rattle.hd_volume.specs.Headers.{header_of}
use Rattle.hd_volume.specs.Volumes.{VolumeState, IsFormatted}
use Rattle.hd_volume.specs.Rooms.{spare, free_below}
use Rattle.hd_volume.specs.Spaces.{volume_of, room_for}
use Rattle.hd_volume.proofs.GrowLemmas.{formatted-count, free-most}
use Rattle.hd_volume.proofs.volume.Volume.spare.Goals as goal

pub returns : goal.returns
returns g c =
    let P : VolumeState → Type 0 = λ v. IsTrue v.is_sound → c.saturating_add.result ≡ spare v in
    let F : VolumeState → Type 0 = λ u. IsTrue u.is_sound → IsFormatted u in
    let room : ℕ = room_for c.self.inside.spacing c.self.inside.blocks.room (vec_len c.self.inside.space.contents) (vec_capacity c.self.inside.space.contents) in
    let v : VolumeState = volume_of c.self.inside.blocks c.self.inside.sizes.items c.self.inside.spacing room in
    let least = c.self.invariant.least in
    subst P c.self.view_is
    (λ sound.
    let f : IsFormatted v = subst F (sym c.self.view_is) c.requires.formatted sound in
    let space = c.self.invariant.true_of sound in
    let blocks = formatted-count v f.header (omega arith) in
    let count : c.len-count.result ≡ (header_of v.image).count = c.len-count.ensures ∙ space.len ∙ blocks in
    let largest : c.head_number.result ≡ (header_of v.image).largest = c.head_number.ensures sound f.header.first in
    let free : c.self.inside.space.free ≡ free_below v.size v.image (header_of v.image).count = space.free ∙ ap (λ (k : ℕ). free_below v.size v.image k) blocks in
    let few = free-most v.size v.image (header_of v.image).count in
    let within = f.header.within in
    let bound = f.header.bound in
    let growth : c.saturating_sub-growth.result ≡ (header_of v.image).largest - (header_of v.image).count = (let e = c.saturating_sub-growth.ensures in omega arith) in
    let sum = c.saturating_add.ensures in
    omega arith)
