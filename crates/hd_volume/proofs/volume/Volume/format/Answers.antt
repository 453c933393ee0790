use Rattle.std.proofs.Common.{◌≡◌, ℕ, ◌*◌, List, length, replicate, vec_len, IsTrue, subst, sym, ap, ◌∙◌, arith}
use Rattle.std.specs.Vec.{vec_capacity}
use Rattle.hd_bytes.specs.Blocks.{block_of, HasBlock}
use Rattle.hd_bytes.specs.Ranges.{with_bytes}
use Rattle.hd_bytes.proofs.BlockLemmas.{length-block}
use Rattle.hd_volume.specs.Buffers.{Buffered}
use Rattle.hd_volume.specs.Volumes.{VolumeState}
use Rattle.hd_volume.specs.Creates.{IsCreated, head_list}
use Rattle.hd_volume.specs.Spaces.{volume_of, room_for}
use Rattle.hd_volume.proofs.CreateLemmas.{only-space, own-block, created}
use Rattle.hd_volume.proofs.volume.Volume.format.Goals as goal

pub invariant_of-self : goal.invariant_of-self
invariant_of-self g c =
    let room : ℕ = room_for c.self.inside.spacing c.self.inside.blocks.room (vec_len c.self.inside.space.contents) (vec_capacity c.self.inside.space.contents) in
    let v : VolumeState = volume_of c.self.inside.blocks c.self.inside.sizes.items c.self.inside.spacing room in
    let O : VolumeState → Type 0 = λ u. IsTrue u.is_sound → length u.image ≡ u.size in
    let T : VolumeState → Type 0 = λ u. IsTrue u.is_sound → u.stored ≡ replicate (1 * u.size) 0 in
    let size : c.write_front.new.self.size ≡ v.size = ap (λ (b : Buffered). b.size) c.write_front.ensures.rest in
    let sound-is : c.write_front.new.self.is_sound ≡ v.is_sound = ap (λ (b : Buffered). b.is_sound) c.write_front.ensures.rest in
    let stored-is : c.write_front.new.self.stored ≡ v.stored = ap (λ (b : Buffered). b.stored) c.write_front.ensures.rest in
    record {
      least = rw size c.self.invariant.least;
      most = rw size c.self.invariant.most;
      eighths = rw size c.self.invariant.eighths;
      fits = rw size c.self.invariant.fits;
      small = c.self.invariant.small;
      true_of = λ sound.
          let before : IsTrue v.is_sound = rw (← sound-is) sound in
          let one : length v.image ≡ v.size = subst O (sym c.self.view_is) c.requires.one before in
          let first : HasBlock v.size v.image 0 = omega arith in
          let change = c.write_front.ensures.others before first in
          let len = change.len in
          let least = c.self.invariant.least in
          rw size (only-space v.size c.self.inside.sizes.items v.image c.write_front.new.self.image c.self.inside.space (omega arith) one (len ∙ one) (c.self.invariant.true_of before));
    }

pub returns-clause-created : goal.returns-clause-created
returns-clause-created g c =
    let room : ℕ = room_for c.self.inside.spacing c.self.inside.blocks.room (vec_len c.self.inside.space.contents) (vec_capacity c.self.inside.space.contents) in
    let v : VolumeState = volume_of c.self.inside.blocks c.self.inside.sizes.items c.self.inside.spacing room in
    let O : VolumeState → Type 0 = λ u. IsTrue u.is_sound → length u.image ≡ u.size in
    let T : VolumeState → Type 0 = λ u. IsTrue u.is_sound → u.stored ≡ replicate (1 * u.size) 0 in
    let size : c.write_front.new.self.size ≡ v.size = ap (λ (b : Buffered). b.size) c.write_front.ensures.rest in
    let sound-is : c.write_front.new.self.is_sound ≡ v.is_sound = ap (λ (b : Buffered). b.is_sound) c.write_front.ensures.rest in
    let stored-is : c.write_front.new.self.stored ≡ v.stored = ap (λ (b : Buffered). b.stored) c.write_front.ensures.rest in
    let room2 : ℕ = room_for c.self.inside.spacing c.write_front.new.self.room (vec_len c.self.inside.space.contents) (vec_capacity c.self.inside.space.contents) in
    let w : VolumeState = volume_of c.write_front.new.self c.self.inside.sizes.items c.self.inside.spacing room2 in
    let Z : VolumeState → Type 0 = λ u. IsTrue u.is_sound → u.image ≡ replicate (1 * u.size) 0 in
    let P : VolumeState → Type 0 = λ u. IsTrue u.is_sound → IsCreated c.args.name.now u.size c.args.largest w in
    subst P c.self.view_is
    (λ before.
    let one : length v.image ≡ v.size = subst O (sym c.self.view_is) c.requires.one before in
    let first : HasBlock v.size v.image 0 = omega arith in
    let change = c.write_front.ensures.others before first in
    let len = change.len in
    let least = c.self.invariant.least in
    let bytes : block_of v.size w.image 0 ≡ with_bytes (block_of v.size v.image 0) 0 (head_list c.args.name.now v.size c.args.largest) =
    c.write_front.ensures.block before first ∙ ap (λ (t : List ℕ). with_bytes (block_of v.size v.image 0) 0 t) (c.head_bytes.ensures ∙ ap (λ (k : ℕ). head_list c.args.name.now k c.args.largest) c.block_size-size.ensures.value) in
    created w (block_of v.size v.image 0) c.args.name.now v.size c.args.largest (omega arith) size c.requires.eight (len ∙ one) (length-block v.size 0 v.image first) bytes c.requires.bounds.0 c.requires.bounds.1
    (stored-is ∙ subst T (sym c.self.view_is) c.requires.stored before)
    (own-block v.size v.image one ∙ subst Z (sym c.self.view_is) c.requires.zeros before))
