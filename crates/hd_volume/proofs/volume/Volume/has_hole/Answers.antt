use Rattle.std.proofs.Common.{◌∙◌, ap, ◌≡◌, ℕ, true, false, vec_len, IsTrue, subst, sym, arith}
use Rattle.std.specs.Vec.{vec_capacity}
use Rattle.hd_volume.specs.Volumes.{VolumeState, IsFormatted}
use Rattle.hd_volume.specs.Rooms.{HasHole}
use Rattle.hd_volume.specs.Spaces.{volume_of, room_for}
use Rattle.hd_volume.proofs.PutLemmas.{are-divided, no-hole, hole-of}
use Rattle.hd_volume.proofs.MapLemmas.{fetched-read}
use Rattle.hd_volume.proofs.volume.Volume.has_hole.Goals as goal

pub seek_size-requires-clause-divided : goal.seek_size-requires-clause-divided
seek_size-requires-clause-divided g c =
    let room : ℕ = room_for c.self.inside.spacing c.self.inside.blocks.room (vec_len c.self.inside.space.contents) (vec_capacity c.self.inside.space.contents) in
    let v : VolumeState = volume_of c.self.inside.blocks c.self.inside.sizes.items c.self.inside.spacing room in
    let F : VolumeState → Type 0 = λ u. IsTrue u.is_sound → IsFormatted u in
    let formatted : IsTrue v.is_sound → IsFormatted v = subst F (sym c.self.view_is) c.requires.formatted in
    let least = c.self.invariant.least in
    rw c.deref.ensures.value (λ sound. are-divided v (omega arith) (formatted sound))

pub returns-clause-found : goal.returns-clause-found
returns-clause-found g c =
    let P : VolumeState → Type 0 = λ v. IsTrue v.is_sound → c.in_ok-found.found ≡ true → HasHole v c.args.size in
    let room : ℕ = room_for c.self.inside.spacing c.self.inside.blocks.room (vec_len c.self.inside.space.contents) (vec_capacity c.self.inside.space.contents) in
    let v : VolumeState = volume_of c.self.inside.blocks c.self.inside.sizes.items c.self.inside.spacing room in
    let least = c.self.invariant.least in
    subst P c.self.view_is (λ sound is. hole-of v c.args.size (omega arith) (rw c.deref.ensures.value at (c.in_ok-found.ensures.found sound is)))

pub returns-clause-none : goal.returns-clause-none
returns-clause-none g c =
    let P : VolumeState → Type 0 = λ v. IsTrue v.is_sound → c.in_ok-found.found ≡ false → HasHole v c.args.size → ⊥ in
    let F : VolumeState → Type 0 = λ u. IsTrue u.is_sound → IsFormatted u in
    let room : ℕ = room_for c.self.inside.spacing c.self.inside.blocks.room (vec_len c.self.inside.space.contents) (vec_capacity c.self.inside.space.contents) in
    let v : VolumeState = volume_of c.self.inside.blocks c.self.inside.sizes.items c.self.inside.spacing room in
    let least = c.self.invariant.least in
    subst P c.self.view_is
    (λ sound is.
    let f : IsFormatted v = subst F (sym c.self.view_is) c.requires.formatted sound in
    no-hole v c.args.size f.header (omega arith) (rw c.deref.ensures.value at (c.in_ok-found.ensures.none sound is)))

pub returns-clause-read : goal.returns-clause-read
returns-clause-read g c =
    let room : ℕ = room_for c.self.inside.spacing c.self.inside.blocks.room (vec_len c.self.inside.space.contents) (vec_capacity c.self.inside.space.contents) in
    let room2 : ℕ = room_for c.self.inside.spacing c.seek_size.new.blocks.room (vec_len c.seek_size.new.space.contents) (vec_capacity c.seek_size.new.space.contents) in
    let tables = c.seek_size.ensures.tables in
    let one = ap (λ (r : ℕ). room_for c.self.inside.spacing r (vec_len c.self.inside.space.contents) (vec_capacity c.self.inside.space.contents)) c.in_ok-found.ensures.fetch.room in
    let two = ap (λ (l : ℕ). room_for c.self.inside.spacing c.seek_size.new.blocks.room l (vec_capacity c.self.inside.space.contents)) tables.len in
    let three = ap (λ (k : ℕ). room_for c.self.inside.spacing c.seek_size.new.blocks.room (vec_len c.seek_size.new.space.contents) k) tables.capacity in
    let same : room2 ≡ room = three ∙ two ∙ one in
    fetched-read c.args.self.now c.self.inside.blocks c.seek_size.new.blocks c.self.inside.sizes.items c.self.inside.spacing room room2 c.in_ok-found.found c.in_ok-found.found c.self.view_is c.in_ok-found.ensures.fetch same
