use Rattle.std.proofs.Common.{◌≡◌, ◌*◌, ◌/◌, ℕ, length, vec_len, IsTrue, IfOk, IfSome, refl, subst, sym, arith}
use Rattle.std.specs.Vec.{vec_capacity}
use Rattle.hd_volume.specs.Volumes.{VolumeState, block_at, IsFormatted}
use Rattle.hd_volume.specs.Spacing.{bytes_to_leave}
use Rattle.hd_volume.specs.Steps.{HasRoom, MayTake}
use Rattle.hd_volume.specs.Spaces.{volume_of, room_for}
use Rattle.hd_volume.proofs.CallSteps.{fetched-any}
use Rattle.hd_volume.proofs.PutLemmas.{are-divided, room-of, if-some-map}
use Rattle.hd_volume.proofs.JoinLemmas.{if-ok-map}
use Rattle.hd_volume.proofs.volume.Volume.find_spaced.Goals as goal

pub seek_spaced-requires-clause-divided : goal.seek_spaced-requires-clause-divided
seek_spaced-requires-clause-divided g c =
    let room : ℕ = room_for c.self.inside.spacing c.self.inside.blocks.room (vec_len c.self.inside.space.contents) (vec_capacity c.self.inside.space.contents) in
    let v : VolumeState = volume_of c.self.inside.blocks c.self.inside.sizes.items c.self.inside.spacing room in
    let F : VolumeState → Type 0 = λ u. IsTrue u.is_sound → IsFormatted u in
    let formatted : IsTrue v.is_sound → IsFormatted v = subst F (sym c.self.view_is) c.requires.formatted in
    let least = c.self.invariant.least in
    rw c.deref.ensures.value (λ sound. are-divided v (omega arith) (formatted sound))

pub returns-clause-read : goal.returns-clause-read
returns-clause-read g c =
    let room : ℕ = room_for c.self.inside.spacing c.self.inside.blocks.room (vec_len c.self.inside.space.contents) (vec_capacity c.self.inside.space.contents) in
    let room2 : ℕ = room_for c.self.inside.spacing c.seek_spaced.new.blocks.room (vec_len c.self.inside.space.contents) (vec_capacity c.self.inside.space.contents) in
    let same : room2 ≡ room = rw c.seek_spaced.ensures.fetch.room refl in
    fetched-any c.args.self.now c.self.inside.blocks c.seek_spaced.new.blocks c.self.inside.sizes.items c.self.inside.spacing room room2 c.seek_spaced.result c.self.view_is c.seek_spaced.ensures.fetch same

pub returns-clause-found : goal.returns-clause-found
returns-clause-found g c =
    let room : ℕ = room_for c.self.inside.spacing c.self.inside.blocks.room (vec_len c.self.inside.space.contents) (vec_capacity c.self.inside.space.contents) in
    let v : VolumeState = volume_of c.self.inside.blocks c.self.inside.sizes.items c.self.inside.spacing room in
    let need : ℕ = length c.args.bytes.now in
    let P : VolumeState → Type 0 = λ u. IfOk c.seek_spaced.result (λ o. IsTrue u.is_sound → IfSome o (λ n. HasRoom u n need × MayTake u.sizes (bytes_to_leave u.size u.spacing) need (block_at u n))) in
    let least = c.self.invariant.least in
    let leave : c.block_size.result * c.from.result / 100 ≡ bytes_to_leave v.size v.spacing = rw (c.block_size.ensures.value, c.from.ensures) refl in
    subst P c.self.view_is
    (if-ok-map c.seek_spaced.result
    (λ o h sound. if-some-map o (λ n k. (
      room-of v n need (omega arith) (k.0, k.1, k.2.0, k.2.1),
      (let M : ℕ → Type 0 = λ l. MayTake v.sizes l need (block_at v n) in subst M leave k.2.2),
    )) (h sound))
    (rw c.deref.ensures.value at c.seek_spaced.ensures.found))
