use Rattle.std.proofs.Common.{◌≡◌, ℕ, ◌/◌, ◌%◌, ◌+◌, ◌<◌, List, length, vec_len, IsTrue, refl, subst, sym, ap, ◌∙◌, arith}
use Rattle.std.specs.Vec.{vec_capacity}
use Rattle.hd_bytes.specs.Blocks.{block_of, HasBlock}
use Rattle.hd_bytes.specs.Ranges.{with_bytes}
use Rattle.hd_volume.specs.Buffers.{Buffered}
use Rattle.hd_volume.specs.Volumes.{VolumeState, block_at, IsFormatted}
use Rattle.hd_volume.specs.Calls.{IsWritten, HasSegment, KeepsSize}
use Rattle.hd_volume.specs.Spaces.{volume_of, room_for}
use Rattle.hd_volume.proofs.MapLemmas.{find-there}
use Rattle.hd_volume.proofs.FrameLemmas.{HasChanged}
use Rattle.hd_volume.proofs.CallLemmas.{write-writes, write-space, changed-by, segment-within}
use Rattle.hd_volume.proofs.volume.Volume.write_segment.Goals as goal
use Rattle.hd_volume.proofs.volume.Volume.write_segment.Goals.{then-offset-size-via-then-offset-size, then-offset-size-via-else-offset-size+then-bytes-size}

pub fetch-requires : goal.fetch-requires
fetch-requires g c = record {
  there =
      let P : VolumeState → Type 0 = λ v. IsTrue v.is_sound → (0 < c.args.address / v.size) × HasBlock v.size v.image (c.args.address / v.size) in
      let there = subst P (sym c.self.view_is) (λ sound. let k = find-there c.args.self.now c.args.address _ (c.requires.formatted sound) (c.requires.there sound) in (k.later, k.there)) in
      rw c.place-n.ensures.number there;
}

pub returns-then-offset-size-clause-written : goal.returns-then-offset-size-clause-written
returns-then-offset-size-clause-written g c sound =
    let v : VolumeState = c.args.self.now in
    let bs : c.block_size-size.result ≡ v.size = c.block_size-size.ensures.value ∙ ap (λ (u : VolumeState). u.size) c.self.view_is in
    let fits = segment-within v c.args.address (c.args.offset + length c.args.bytes.now) (c.requires.formatted sound) (c.requires.there sound) in
    let at : c.place-n.result.1 ≡ c.args.address % v.size = c.place-n.ensures.offset ∙ ap (λ (u : VolumeState). c.args.address % u.size) c.self.view_is in
    absurd (elim c.then-offset-size.branch [
      | then-offset-size-via-then-offset-size w ↦ (let over = w.if-offset-size.true in omega arith)
      | then-offset-size-via-else-offset-size+then-bytes-size w ↦ (let over = w.if-bytes-size.true in omega arith)
    ])

pub invariant_of-self-2 : goal.invariant_of-self-2
invariant_of-self-2 g c =
    let room : ℕ = room_for c.self.inside.spacing c.self.inside.blocks.room (vec_len c.self.inside.space.contents) (vec_capacity c.self.inside.space.contents) in
    let v : VolumeState = volume_of c.self.inside.blocks c.self.inside.sizes.items c.self.inside.spacing room in
    let w : VolumeState = volume_of c.write_hand.new.self c.self.inside.sizes.items c.self.inside.spacing room in
    let a : ℕ = c.args.address in
    let o : ℕ = c.args.offset in
    let bytes : List ℕ = c.args.bytes.now in
    let size : c.write_hand.new.self.size ≡ v.size = ap (λ (b : Buffered). b.size) c.write_hand.ensures.rest ∙ c.fetch.ensures.size in
    let sound-is : c.write_hand.new.self.is_sound ≡ v.is_sound = ap (λ (b : Buffered). b.is_sound) c.write_hand.ensures.rest ∙ c.in_ok-fetch.ensures.sound in
    let F : VolumeState → Type 0 = λ u. IsTrue u.is_sound → IsFormatted u in
    let T : VolumeState → Type 0 = λ u. IsTrue u.is_sound → HasSegment u a (o + length bytes) in
    let K : VolumeState → Type 0 = λ u. IsTrue u.is_sound → KeepsSize u a o bytes in
    record {
      least = rw size c.self.invariant.least;
      most = rw size c.self.invariant.most;
      eighths = rw size c.self.invariant.eighths;
      fits = rw size c.self.invariant.fits;
      small = c.self.invariant.small;
      true_of = λ sound.
          let before : IsTrue v.is_sound = rw (← sound-is) sound in
          let f : IsFormatted v = subst F (sym c.self.view_is) c.requires.formatted before in
          let h : HasSegment v a (o + length bytes) = subst T (sym c.self.view_is) c.requires.there before in
          let keeps : KeepsSize v a o bytes = subst K (sym c.self.view_is) c.requires.keeps_size before in
          let now : IsTrue c.fetch.new.self.is_sound = rw c.in_ok-fetch.ensures.sound before in
          let there = find-there v a (o + length bytes) f h in
          let later = there.later in
          let hand : c.fetch.new.self.hand ≡ a / v.size = c.in_ok-fetch.ensures.hand ∙ c.place-n.ensures.number in
          let some : 0 < c.fetch.new.self.hand = omega arith in
          let image : c.fetch.new.self.image ≡ v.image = c.in_ok-fetch.ensures.image before in
          let changed : HasChanged v w (a / v.size) = changed-by v w c.fetch.new.self.size c.fetch.new.self.hand (a / v.size) c.fetch.new.self.image size refl c.fetch.ensures.size image hand (c.write_hand.ensures.others now some) in
          let at : c.place-n.result.1 ≡ a % v.size = c.place-n.ensures.offset in
          let new : block_of v.size w.image (a / v.size) ≡ with_bytes (block_at v (a / v.size)) (a % v.size + o) bytes = rw (c.fetch.ensures.size, image, hand, at) at (c.write_hand.ensures.block now some) in
          let least = c.self.invariant.least in
          rw size (write-space v w a o bytes f h keeps (omega arith) changed new c.self.inside.space (c.self.invariant.true_of before));
    }

pub returns-clause-written : goal.returns-clause-written
returns-clause-written g c =
    let room : ℕ = room_for c.self.inside.spacing c.self.inside.blocks.room (vec_len c.self.inside.space.contents) (vec_capacity c.self.inside.space.contents) in
    let v : VolumeState = volume_of c.self.inside.blocks c.self.inside.sizes.items c.self.inside.spacing room in
    let room2 : ℕ = room_for c.self.inside.spacing c.write_hand.new.self.room (vec_len c.self.inside.space.contents) (vec_capacity c.self.inside.space.contents) in
    let w : VolumeState = volume_of c.write_hand.new.self c.self.inside.sizes.items c.self.inside.spacing room2 in
    let a : ℕ = c.args.address in
    let o : ℕ = c.args.offset in
    let bytes : List ℕ = c.args.bytes.now in
    let size : c.write_hand.new.self.size ≡ v.size = ap (λ (b : Buffered). b.size) c.write_hand.ensures.rest ∙ c.fetch.ensures.size in
    let F : VolumeState → Type 0 = λ u. IsTrue u.is_sound → IsFormatted u in
    let T : VolumeState → Type 0 = λ u. IsTrue u.is_sound → HasSegment u a (o + length bytes) in
    let K : VolumeState → Type 0 = λ u. IsTrue u.is_sound → KeepsSize u a o bytes in
    let P : VolumeState → Type 0 = λ u. IsTrue u.is_sound → IsWritten u a o bytes w in
    subst P c.self.view_is
    (λ before.
    let f : IsFormatted v = subst F (sym c.self.view_is) c.requires.formatted before in
    let h : HasSegment v a (o + length bytes) = subst T (sym c.self.view_is) c.requires.there before in
    let keeps : KeepsSize v a o bytes = subst K (sym c.self.view_is) c.requires.keeps_size before in
    let now : IsTrue c.fetch.new.self.is_sound = rw c.in_ok-fetch.ensures.sound before in
    let there = find-there v a (o + length bytes) f h in
    let later = there.later in
    let hand : c.fetch.new.self.hand ≡ a / v.size = c.in_ok-fetch.ensures.hand ∙ c.place-n.ensures.number in
    let some : 0 < c.fetch.new.self.hand = omega arith in
    let image : c.fetch.new.self.image ≡ v.image = c.in_ok-fetch.ensures.image before in
    let changed : HasChanged v w (a / v.size) = changed-by v w c.fetch.new.self.size c.fetch.new.self.hand (a / v.size) c.fetch.new.self.image size refl c.fetch.ensures.size image hand (c.write_hand.ensures.others now some) in
    let at : c.place-n.result.1 ≡ a % v.size = c.place-n.ensures.offset in
    let new : block_of v.size w.image (a / v.size) ≡ with_bytes (block_at v (a / v.size)) (a % v.size + o) bytes = rw (c.fetch.ensures.size, image, hand, at) at (c.write_hand.ensures.block now some) in
    let least = c.self.invariant.least in
    write-writes v w a o bytes f h keeps (omega arith) changed new)
