use Rattle.std.proofs.Common.{◌≡◌, ℕ, ◌+◌, ◌<◌, ◌≤◌, length, vec_len, IsTrue, refl, subst, sym, ap, ◌∙◌, arith}
use Rattle.std.specs.Vec.{vec_capacity}
use Rattle.hd_bytes.specs.Blocks.{block_of}
use Rattle.hd_bytes.specs.Ranges.{with_bytes}
use Rattle.hd_volume.specs.Buffers.{Buffered}
use Rattle.hd_volume.specs.Volumes.{VolumeState, block_at, IsKind, IsFormatted}
use Rattle.hd_volume.specs.Calls.{IsWrittenBlock}
use Rattle.hd_volume.specs.Spaces.{volume_of, room_for}
use Rattle.hd_volume.proofs.FrameLemmas.{HasChanged}
use Rattle.hd_volume.proofs.CallLemmas.{changed-by}
use Rattle.hd_volume.proofs.KindLemmas.{block-written, written-space}
use Rattle.hd_volume.proofs.volume.Volume.write_index.Goals as goal

pub invariant_of-self-2 : goal.invariant_of-self-2
invariant_of-self-2 g c =
    let room : ℕ = room_for c.self.inside.spacing c.self.inside.blocks.room (vec_len c.self.inside.space.contents) (vec_capacity c.self.inside.space.contents) in
    let v : VolumeState = volume_of c.self.inside.blocks c.self.inside.sizes.items c.self.inside.spacing room in
    let n : ℕ = c.args.n in
    let F : VolumeState → Type 0 = λ u. IsTrue u.is_sound → IsFormatted u in
    let K : VolumeState → Type 0 = λ u. IsTrue u.is_sound → IsKind u 2 n in
    let size : c.write_hand.new.self.size ≡ v.size = ap (λ (b : Buffered). b.size) c.write_hand.ensures.rest ∙ c.fetch.ensures.size in
    let sound-is : c.write_hand.new.self.is_sound ≡ v.is_sound = ap (λ (b : Buffered). b.is_sound) c.write_hand.ensures.rest ∙ c.in_ok-fetch.ensures.sound in
    let W : VolumeState → Type 0 = λ u. c.args.offset + length c.args.bytes.now ≤ u.size in
    let within : c.args.offset + length c.args.bytes.now ≤ v.size = subst W (sym c.self.view_is) c.requires.within in
    let w : VolumeState = volume_of c.write_hand.new.self c.self.inside.sizes.items c.self.inside.spacing room in
    record {
      least = rw size c.self.invariant.least;
      most = rw size c.self.invariant.most;
      eighths = rw size c.self.invariant.eighths;
      fits = rw size c.self.invariant.fits;
      small = c.self.invariant.small;
      true_of = λ sound.
          let before : IsTrue v.is_sound = rw (← sound-is) sound in
          let f : IsFormatted v = subst F (sym c.self.view_is) c.requires.formatted before in
          let k : IsKind v 2 n = subst K (sym c.self.view_is) c.requires.there before in
          let now : IsTrue c.fetch.new.self.is_sound = rw c.in_ok-fetch.ensures.sound before in
          let later = k.later in
          let hand : c.fetch.new.self.hand ≡ n = c.in_ok-fetch.ensures.hand in
          let some : 0 < c.fetch.new.self.hand = omega arith in
          let image : c.fetch.new.self.image ≡ v.image = c.in_ok-fetch.ensures.image before in
          let changed : HasChanged v w n = changed-by v w c.fetch.new.self.size c.fetch.new.self.hand n c.fetch.new.self.image size refl c.fetch.ensures.size image hand (c.write_hand.ensures.others now some) in
          let new : block_of v.size w.image n ≡ with_bytes (block_at v n) c.args.offset c.args.bytes.now = rw (c.fetch.ensures.size, image, hand) at (c.write_hand.ensures.block now some) in
          let old = c.self.invariant.true_of before in
          rw size (written-space v w n c.args.offset c.args.bytes.now f k c.self.invariant.least c.requires.behind within changed new c.self.inside.space old);
    }

pub returns-clause-written : goal.returns-clause-written
returns-clause-written g c =
    let room : ℕ = room_for c.self.inside.spacing c.self.inside.blocks.room (vec_len c.self.inside.space.contents) (vec_capacity c.self.inside.space.contents) in
    let v : VolumeState = volume_of c.self.inside.blocks c.self.inside.sizes.items c.self.inside.spacing room in
    let n : ℕ = c.args.n in
    let F : VolumeState → Type 0 = λ u. IsTrue u.is_sound → IsFormatted u in
    let K : VolumeState → Type 0 = λ u. IsTrue u.is_sound → IsKind u 2 n in
    let size : c.write_hand.new.self.size ≡ v.size = ap (λ (b : Buffered). b.size) c.write_hand.ensures.rest ∙ c.fetch.ensures.size in
    let sound-is : c.write_hand.new.self.is_sound ≡ v.is_sound = ap (λ (b : Buffered). b.is_sound) c.write_hand.ensures.rest ∙ c.in_ok-fetch.ensures.sound in
    let W : VolumeState → Type 0 = λ u. c.args.offset + length c.args.bytes.now ≤ u.size in
    let within : c.args.offset + length c.args.bytes.now ≤ v.size = subst W (sym c.self.view_is) c.requires.within in
    let room2 : ℕ = room_for c.self.inside.spacing c.write_hand.new.self.room (vec_len c.self.inside.space.contents) (vec_capacity c.self.inside.space.contents) in
    let w : VolumeState = volume_of c.write_hand.new.self c.self.inside.sizes.items c.self.inside.spacing room2 in
    let P : VolumeState → Type 0 = λ u. IsTrue u.is_sound → IsWrittenBlock u n c.args.offset c.args.bytes.now w in
    subst P c.self.view_is
    (λ before.
    let f : IsFormatted v = subst F (sym c.self.view_is) c.requires.formatted before in
    let k : IsKind v 2 n = subst K (sym c.self.view_is) c.requires.there before in
    let now : IsTrue c.fetch.new.self.is_sound = rw c.in_ok-fetch.ensures.sound before in
    let later = k.later in
    let hand : c.fetch.new.self.hand ≡ n = c.in_ok-fetch.ensures.hand in
    let some : 0 < c.fetch.new.self.hand = omega arith in
    let image : c.fetch.new.self.image ≡ v.image = c.in_ok-fetch.ensures.image before in
    let changed : HasChanged v w n = changed-by v w c.fetch.new.self.size c.fetch.new.self.hand n c.fetch.new.self.image size refl c.fetch.ensures.size image hand (c.write_hand.ensures.others now some) in
    let new : block_of v.size w.image n ≡ with_bytes (block_at v n) c.args.offset c.args.bytes.now = rw (c.fetch.ensures.size, image, hand) at (c.write_hand.ensures.block now some) in
    block-written v w n c.args.offset c.args.bytes.now f k c.self.invariant.least c.requires.behind within changed new)
