use Rattle.std.proofs.Common.{◌∙◌, ap, ◌≡◌, ℕ, length, vec_len, IsTrue, IfSome, IfNone, subst, sym, arith}
use Rattle.std.specs.Vec.{vec_capacity}
use Rattle.hd_volume.specs.Volumes.{VolumeState, IsFormatted}
use Rattle.hd_volume.specs.Rooms.{HasHole}
use Rattle.hd_volume.specs.Steps.{HasRoom}
use Rattle.hd_volume.specs.Spaces.{volume_of, room_for}
use Rattle.hd_volume.proofs.PutLemmas.{are-divided, if-some-map, if-none-map, room-of, no-hole}
use Rattle.hd_volume.proofs.MapLemmas.{fetched-read}
use Rattle.hd_volume.proofs.volume.Volume.find_hole.Goals as goal

pub seek_hole-requires-clause-divided : goal.seek_hole-requires-clause-divided
seek_hole-requires-clause-divided g c =
    let room : ℕ = room_for c.self.inside.spacing c.self.inside.blocks.room (vec_len c.self.inside.space.contents) (vec_capacity c.self.inside.space.contents) in
    let v : VolumeState = volume_of c.self.inside.blocks c.self.inside.sizes.items c.self.inside.spacing room in
    let F : VolumeState → Type 0 = λ u. IsTrue u.is_sound → IsFormatted u in
    let formatted : IsTrue v.is_sound → IsFormatted v = subst F (sym c.self.view_is) c.requires.formatted in
    let least = c.self.invariant.least in
    rw c.deref.ensures.value (λ sound. are-divided v (omega arith) (formatted sound))

pub returns-clause-found : goal.returns-clause-found
returns-clause-found g c =
    let P : VolumeState → Type 0 = λ v. IsTrue v.is_sound → IfSome c.in_ok-found.found (λ n. HasRoom v n (length c.args.bytes.now)) in
    let room : ℕ = room_for c.self.inside.spacing c.self.inside.blocks.room (vec_len c.self.inside.space.contents) (vec_capacity c.self.inside.space.contents) in
    let v : VolumeState = volume_of c.self.inside.blocks c.self.inside.sizes.items c.self.inside.spacing room in
    let least = c.self.invariant.least in
    subst P c.self.view_is
    (λ sound. if-some-map c.in_ok-found.found (λ n h. room-of v n (length c.args.bytes.now) (omega arith) h)
    (rw c.deref.ensures.value at (c.in_ok-found.ensures.found sound)))

pub returns-clause-none : goal.returns-clause-none
returns-clause-none g c =
    let P : VolumeState → Type 0 = λ v. IsTrue v.is_sound → IfNone c.in_ok-found.found (HasHole v (length c.args.bytes.now) → ⊥) in
    let room : ℕ = room_for c.self.inside.spacing c.self.inside.blocks.room (vec_len c.self.inside.space.contents) (vec_capacity c.self.inside.space.contents) in
    let v : VolumeState = volume_of c.self.inside.blocks c.self.inside.sizes.items c.self.inside.spacing room in
    let least = c.self.invariant.least in
    let F : VolumeState → Type 0 = λ u. IsTrue u.is_sound → IsFormatted u in
    subst P c.self.view_is
    (λ sound.
    let f : IsFormatted v = subst F (sym c.self.view_is) c.requires.formatted sound in
    if-none-map c.in_ok-found.found (λ h. no-hole v (length c.args.bytes.now) f.header (omega arith) h)
    (rw c.deref.ensures.value at (c.in_ok-found.ensures.none sound)))

pub returns-clause-read : goal.returns-clause-read
returns-clause-read g c =
    let room : ℕ = room_for c.self.inside.spacing c.self.inside.blocks.room (vec_len c.self.inside.space.contents) (vec_capacity c.self.inside.space.contents) in
    let room2 : ℕ = room_for c.self.inside.spacing c.seek_hole.new.blocks.room (vec_len c.seek_hole.new.space.contents) (vec_capacity c.seek_hole.new.space.contents) in
    let tables = c.seek_hole.ensures.tables in
    let one = ap (λ (r : ℕ). room_for c.self.inside.spacing r (vec_len c.self.inside.space.contents) (vec_capacity c.self.inside.space.contents)) c.in_ok-found.ensures.fetch.room in
    let two = ap (λ (l : ℕ). room_for c.self.inside.spacing c.seek_hole.new.blocks.room l (vec_capacity c.self.inside.space.contents)) tables.len in
    let three = ap (λ (k : ℕ). room_for c.self.inside.spacing c.seek_hole.new.blocks.room (vec_len c.seek_hole.new.space.contents) k) tables.capacity in
    let same : room2 ≡ room = three ∙ two ∙ one in
    fetched-read c.args.self.now c.self.inside.blocks c.seek_hole.new.blocks c.self.inside.sizes.items c.self.inside.spacing room room2 c.in_ok-found.found c.in_ok-found.found c.self.view_is c.in_ok-found.ensures.fetch same
