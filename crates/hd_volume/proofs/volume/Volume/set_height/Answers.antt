use Rattle.std.proofs.Common.{◌≡◌, ℕ, vec_len, IsTrue, refl, subst, sym, ap, ◌∙◌, arith}
use Rattle.std.specs.Vec.{vec_capacity}
use Rattle.hd_volume.specs.Buffers.{Buffered}
use Rattle.hd_volume.specs.Headers.{header_of}
use Rattle.hd_volume.specs.Volumes.{VolumeState, IsFormatted}
use Rattle.hd_volume.specs.Calls.{HasNewHeader}
use Rattle.hd_volume.specs.Spaces.{volume_of, room_for}
use Rattle.hd_volume.proofs.FrameLemmas.{HasChanged}
use Rattle.hd_volume.proofs.GrowLemmas.{HasNumber, header-height, header-set, set-space}
use Rattle.hd_volume.proofs.SpacingLemmas.{header-space}
use Rattle.hd_volume.proofs.volume.Volume.set_height.Goals as goal

pub invariant_of-self : goal.invariant_of-self
invariant_of-self g c =
    let room : ℕ = room_for c.self.inside.spacing c.self.inside.blocks.room (vec_len c.self.inside.space.contents) (vec_capacity c.self.inside.space.contents) in
    let v : VolumeState = volume_of c.self.inside.blocks c.self.inside.sizes.items c.self.inside.spacing room in
    let size : c.write_head.new.self.size ≡ v.size = ap (λ (b : Buffered). b.size) c.write_head.ensures.rest in
    let F : VolumeState → Type 0 = λ u. IsTrue u.is_sound → IsFormatted u in
    let w : VolumeState = volume_of c.write_head.new.self c.self.inside.sizes.items c.self.inside.spacing room in
    let sound-is : c.write_head.new.self.is_sound ≡ v.is_sound = ap (λ (b : Buffered). b.is_sound) c.write_head.ensures.rest in
    record {
      least = rw size c.self.invariant.least;
      most = rw size c.self.invariant.most;
      eighths = rw size c.self.invariant.eighths;
      fits = rw size c.self.invariant.fits;
      small = c.self.invariant.small;
      true_of = λ sound.
          let before : IsTrue v.is_sound = rw (← sound-is) sound in
          let f : IsFormatted v = subst F (sym c.self.view_is) c.requires.formatted before in
          let first = f.header.first in
          let changed : HasChanged v w 0 = record { same = record { size = size; sizes = refl }; change = c.write_head.ensures.others before first } in
          let least = c.self.invariant.least in
          rw size (set-space v w c.self.inside.space f changed (c.self.invariant.true_of before));
    }

pub returns-clause-set : goal.returns-clause-set
returns-clause-set g c =
    let room : ℕ = room_for c.self.inside.spacing c.self.inside.blocks.room (vec_len c.self.inside.space.contents) (vec_capacity c.self.inside.space.contents) in
    let v : VolumeState = volume_of c.self.inside.blocks c.self.inside.sizes.items c.self.inside.spacing room in
    let size : c.write_head.new.self.size ≡ v.size = ap (λ (b : Buffered). b.size) c.write_head.ensures.rest in
    let F : VolumeState → Type 0 = λ u. IsTrue u.is_sound → IsFormatted u in
    let room2 : ℕ = room_for c.self.inside.spacing c.write_head.new.self.room (vec_len c.self.inside.space.contents) (vec_capacity c.self.inside.space.contents) in
    let w : VolumeState = volume_of c.write_head.new.self c.self.inside.sizes.items c.self.inside.spacing room2 in
    let P : VolumeState → Type 0 = λ u. IsTrue u.is_sound → HasNewHeader u (record (header_of u.image) { height = c.args.height }) w in
    subst P c.self.view_is
    (λ before.
    let f : IsFormatted v = subst F (sym c.self.view_is) c.requires.formatted before in
    let first = f.header.first in
    let changed : HasChanged v w 0 = record { same = record { size = size; sizes = refl }; change = c.write_head.ensures.others before first } in
    let least = c.self.invariant.least in
    let len = changed.change.len in
    let number : HasNumber v.size 40 c.args.height v.image w.image = record { least = omega arith; before = first; after = omega arith; fits = omega arith; small = c.ranges.height.fits; block = c.write_head.ensures.block before first } in
    header-set v w (record (header_of v.image) { height = c.args.height }) f (omega arith) changed (header-height v.size c.args.height v.image w.image number) refl refl refl)

pub returns-clause-space : goal.returns-clause-space
returns-clause-space g c =
    let size : c.write_head.new.self.size ≡ c.self.inside.blocks.size = ap (λ (b : Buffered). b.size) c.write_head.ensures.rest in
    let sound : c.write_head.new.self.is_sound ≡ c.self.inside.blocks.is_sound = ap (λ (b : Buffered). b.is_sound) c.write_head.ensures.rest in
    header-space _ (size ∙ ap (λ (v : VolumeState). v.size) c.self.view_is) (ap (λ (v : VolumeState). v.sizes) c.self.view_is) (ap (λ (v : VolumeState). v.spacing) c.self.view_is)
    (sound ∙ ap (λ (v : VolumeState). v.is_sound) c.self.view_is) refl refl (returns-clause-set g c)
