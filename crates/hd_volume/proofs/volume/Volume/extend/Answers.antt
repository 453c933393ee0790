use Rattle.std.proofs.Common.{◌≡◌, ℕ, ◌+◌, ◌*◌, ◌<◌, ◌≤◌, [], ◌∷◌, ◌++◌, length, slice_index_or, vec_len, IsTrue, refl, subst, sym, ap, ◌∙◌, arith}
use Rattle.std.specs.Vec.{vec_capacity}
use Rattle.byteorder.specs.Endian.{big_bytes}
use Rattle.hd_bytes.specs.Blocks.{block_of, grown, HasBlock}
use Rattle.hd_bytes.specs.Ranges.{with_bytes}
use Rattle.hd_bytes.proofs.BlockLemmas.{length-grown}
use Rattle.hd_volume.specs.Images.{ChangesBlock}
use Rattle.hd_volume.specs.Buffers.{Buffered}
use Rattle.hd_volume.specs.Headers.{header_of}
use Rattle.hd_volume.specs.Volumes.{VolumeState, IsFormatted}
use Rattle.hd_volume.specs.Steps.{HasFree}
use Rattle.hd_volume.specs.Spaces.{volume_of, room_for, blocks_in, content_at}
use Rattle.hd_volume.proofs.FrameLemmas.{AreSame}
use Rattle.hd_volume.proofs.GrowLemmas.{IsGrown, is-grown, grown-has, grown-space, formatted-count, formatted-some, free-most}
use Rattle.hd_volume.proofs.JoinLemmas.{grow-kept}
use Rattle.hd_volume.proofs.volume.Volume.extend.Goals as goal

pub invariant_of-self-2 : goal.invariant_of-self-2
invariant_of-self-2 g c =
    let room : ℕ = room_for c.self.inside.spacing c.self.inside.blocks.room (vec_len c.self.inside.space.contents) (vec_capacity c.self.inside.space.contents) in
    let v : VolumeState = volume_of c.self.inside.blocks c.self.inside.sizes.items c.self.inside.spacing room in
    let F : VolumeState → Type 0 = λ u. IsTrue u.is_sound → IsFormatted u in
    let s1 : c.grow.new.self.size ≡ v.size = c.grow.ensures.size in
    let s2 : c.write_head.new.self.size ≡ v.size = ap (λ (b : Buffered). b.size) c.write_head.ensures.rest ∙ s1 in
    let s3 : c.fetch.new.self.size ≡ v.size = c.fetch.ensures.size ∙ s2 in
    let s4 : c.write_hand.new.self.size ≡ v.size = ap (λ (b : Buffered). b.size) c.write_hand.ensures.rest ∙ s3 in
    let b1 : c.grow.new.self.is_sound ≡ v.is_sound = c.in_ok-grow.ensures.sound in
    let b2 : c.write_head.new.self.is_sound ≡ v.is_sound = ap (λ (b : Buffered). b.is_sound) c.write_head.ensures.rest ∙ b1 in
    let b3 : c.fetch.new.self.is_sound ≡ v.is_sound = c.in_ok-fetch.ensures.sound ∙ b2 in
    let b4 : c.write_hand.new.self.is_sound ≡ v.is_sound = ap (λ (b : Buffered). b.is_sound) c.write_hand.ensures.rest ∙ b3 in
    let n : ℕ = (header_of v.image).count in
    let w : VolumeState = volume_of c.write_hand.new.self c.self.inside.sizes.items c.self.inside.spacing room in
    record {
      least = rw s4 c.self.invariant.least;
      most = rw s4 c.self.invariant.most;
      eighths = rw s4 c.self.invariant.eighths;
      fits = rw s4 c.self.invariant.fits;
      small = (let l = c.add_free.ensures.len in let m = c.in_ok-make_room.ensures.len in let t = c.if-n-min.false in let k = c.min.ensures in let j = c.len-n.ensures in omega arith);
      true_of = λ sound.
          let before : IsTrue v.is_sound = rw (← b4) sound in
          let f : IsFormatted v = subst F (sym c.self.view_is) c.requires.formatted before in
          let least = c.self.invariant.least in
          let space = c.self.invariant.true_of before in
          let len : c.len-n.result ≡ n = c.len-n.ensures ∙ space.len ∙ formatted-count v f.header (omega arith) in
          let t1 : IsTrue c.grow.new.self.is_sound = rw b1 before in
          let t2 : IsTrue c.write_head.new.self.is_sound = rw b2 before in
          let t3 : IsTrue c.fetch.new.self.is_sound = rw b3 before in
          let i1 : c.grow.new.self.image ≡ grown v.size v.image 1 = c.in_ok-grow.ensures.image before in
          let long : length c.grow.new.self.image ≡ length v.image + 1 * v.size = ap length i1 ∙ length-grown v.size 1 v.image in
          let first = f.header.first in
          let there1 : HasBlock c.grow.new.self.size c.grow.new.self.image 0 = rw s1 (omega arith) in
          let c2 : ChangesBlock v.size 0 c.grow.new.self.image c.write_head.new.self.image = rw s1 at (c.write_head.ensures.others t1 there1) in
          let n1 : c.len-n.result + 1 ≡ n + 1 = ap (λ (k : ℕ). k + 1) len in
          let h2 : block_of v.size c.write_head.new.self.image 0 ≡ with_bytes (block_of v.size c.grow.new.self.image 0) 12 (big_bytes 4 (n + 1)) = rw (s1, n1) at (c.write_head.ensures.block t1 there1) in
          let i3 : c.fetch.new.self.image ≡ c.write_head.new.self.image = c.in_ok-fetch.ensures.image t2 in
          let hand : c.fetch.new.self.hand ≡ n = c.in_ok-fetch.ensures.hand ∙ len in
          let whole = f.header.whole in
          let positive : 0 < n = formatted-some v f.header (omega arith) in
          let some : 0 < c.fetch.new.self.hand = omega arith in
          let c4 : ChangesBlock v.size n c.write_head.new.self.image c.write_hand.new.self.image = rw (s3, i3, hand) at (c.write_hand.ensures.others t3 some) in
          let h4 : block_of v.size c.write_hand.new.self.image n ≡ with_bytes (block_of v.size c.write_head.new.self.image n) 2 (3 ∷ []) = rw (s3, i3, hand) at (c.write_hand.ensures.block t3 some) in
          let below : n < (header_of v.image).largest = (let l : c.head_number.result ≡ (header_of v.image).largest = c.head_number.ensures before first in let t = c.if-n-min.false in let m = c.min.ensures in omega arith) in
          let same : AreSame v w = record { size = s4; sizes = refl } in
          let grew : IsGrown v w = is-grown v w c.grow.new.self.image c.write_head.new.self.image f (omega arith) same below i1 c2 h2 c4 h4 in
          let few : c.make_room.new.space.free < 4294967295 = (let e = c.make_room.ensures.free in let l = space.free in let m = free-most v.size v.image (blocks_in v.size v.image) in let b : blocks_in v.size v.image ≤ 65536 = omega arith in let e0 = e.0 in omega arith) in
          let low = c.add_free.ensures.lowest_free in
          let both = c.make_room.ensures.free in
          let one = both.1 in
          rw s4 (grown-space grew f (omega arith) c.self.inside.space c.add_free.new.space space (c.add_free.ensures.contents ∙ ap (λ xs. xs ++ record { kind = 3; hole = 0 } ∷ []) c.make_room.ensures.contents)
          (c.add_free.ensures.len ∙ ap (λ (k : ℕ). k + 1) c.make_room.ensures.len) (c.add_free.ensures.lowest ∙ c.make_room.ensures.lowest) (c.add_free.ensures.free few ∙ ap (λ (k : ℕ). k + 1) both.0)
          (let l = low.0 in omega arith) (let l = low.1 in let m = c.make_room.ensures.len in omega arith));
    }

pub returns-clause-free : goal.returns-clause-free
returns-clause-free g c =
    let room : ℕ = room_for c.self.inside.spacing c.self.inside.blocks.room (vec_len c.self.inside.space.contents) (vec_capacity c.self.inside.space.contents) in
    let v : VolumeState = volume_of c.self.inside.blocks c.self.inside.sizes.items c.self.inside.spacing room in
    let F : VolumeState → Type 0 = λ u. IsTrue u.is_sound → IsFormatted u in
    let s1 : c.grow.new.self.size ≡ v.size = c.grow.ensures.size in
    let s2 : c.write_head.new.self.size ≡ v.size = ap (λ (b : Buffered). b.size) c.write_head.ensures.rest ∙ s1 in
    let s3 : c.fetch.new.self.size ≡ v.size = c.fetch.ensures.size ∙ s2 in
    let s4 : c.write_hand.new.self.size ≡ v.size = ap (λ (b : Buffered). b.size) c.write_hand.ensures.rest ∙ s3 in
    let b1 : c.grow.new.self.is_sound ≡ v.is_sound = c.in_ok-grow.ensures.sound in
    let b2 : c.write_head.new.self.is_sound ≡ v.is_sound = ap (λ (b : Buffered). b.is_sound) c.write_head.ensures.rest ∙ b1 in
    let b3 : c.fetch.new.self.is_sound ≡ v.is_sound = c.in_ok-fetch.ensures.sound ∙ b2 in
    let b4 : c.write_hand.new.self.is_sound ≡ v.is_sound = ap (λ (b : Buffered). b.is_sound) c.write_hand.ensures.rest ∙ b3 in
    let n : ℕ = (header_of v.image).count in
    let room2 : ℕ = room_for c.self.inside.spacing c.write_hand.new.self.room (vec_len c.add_free.new.space.contents) (vec_capacity c.add_free.new.space.contents) in
    let w : VolumeState = volume_of c.write_hand.new.self c.self.inside.sizes.items c.self.inside.spacing room2 in
    let P : VolumeState → Type 0 = λ u. IsTrue u.is_sound → HasFree u c.len-n.result w in
    subst P c.self.view_is
    (λ before.
    let f : IsFormatted v = subst F (sym c.self.view_is) c.requires.formatted before in
    let least = c.self.invariant.least in
    let space = c.self.invariant.true_of before in
    let len : c.len-n.result ≡ n = c.len-n.ensures ∙ space.len ∙ formatted-count v f.header (omega arith) in
    let t1 : IsTrue c.grow.new.self.is_sound = rw b1 before in
    let t2 : IsTrue c.write_head.new.self.is_sound = rw b2 before in
    let t3 : IsTrue c.fetch.new.self.is_sound = rw b3 before in
    let i1 : c.grow.new.self.image ≡ grown v.size v.image 1 = c.in_ok-grow.ensures.image before in
    let long : length c.grow.new.self.image ≡ length v.image + 1 * v.size = ap length i1 ∙ length-grown v.size 1 v.image in
    let first = f.header.first in
    let there1 : HasBlock c.grow.new.self.size c.grow.new.self.image 0 = rw s1 (omega arith) in
    let c2 : ChangesBlock v.size 0 c.grow.new.self.image c.write_head.new.self.image = rw s1 at (c.write_head.ensures.others t1 there1) in
    let n1 : c.len-n.result + 1 ≡ n + 1 = ap (λ (k : ℕ). k + 1) len in
    let h2 : block_of v.size c.write_head.new.self.image 0 ≡ with_bytes (block_of v.size c.grow.new.self.image 0) 12 (big_bytes 4 (n + 1)) = rw (s1, n1) at (c.write_head.ensures.block t1 there1) in
    let i3 : c.fetch.new.self.image ≡ c.write_head.new.self.image = c.in_ok-fetch.ensures.image t2 in
    let hand : c.fetch.new.self.hand ≡ n = c.in_ok-fetch.ensures.hand ∙ len in
    let whole = f.header.whole in
    let positive : 0 < n = formatted-some v f.header (omega arith) in
    let some : 0 < c.fetch.new.self.hand = omega arith in
    let c4 : ChangesBlock v.size n c.write_head.new.self.image c.write_hand.new.self.image = rw (s3, i3, hand) at (c.write_hand.ensures.others t3 some) in
    let h4 : block_of v.size c.write_hand.new.self.image n ≡ with_bytes (block_of v.size c.write_head.new.self.image n) 2 (3 ∷ []) = rw (s3, i3, hand) at (c.write_hand.ensures.block t3 some) in
    let below : n < (header_of v.image).largest = (let l : c.head_number.result ≡ (header_of v.image).largest = c.head_number.ensures before first in let t = c.if-n-min.false in let m = c.min.ensures in omega arith) in
    let same : AreSame v w = record { size = s4; sizes = refl } in
    let grew : IsGrown v w = is-grown v w c.grow.new.self.image c.write_head.new.self.image f (omega arith) same below i1 c2 h2 c4 h4 in
    subst (λ (k : ℕ). HasFree v k w) (sym len) (grown-has grew f (omega arith)))

pub returns-clause-number : goal.returns-clause-number
returns-clause-number g c =
    let room : ℕ = room_for c.self.inside.spacing c.self.inside.blocks.room (vec_len c.self.inside.space.contents) (vec_capacity c.self.inside.space.contents) in
    let v : VolumeState = volume_of c.self.inside.blocks c.self.inside.sizes.items c.self.inside.spacing room in
    let F : VolumeState → Type 0 = λ u. IsTrue u.is_sound → IsFormatted u in
    let P : VolumeState → Type 0 = λ u. IsTrue u.is_sound → c.len-n.result ≡ (header_of u.image).count in
    subst P c.self.view_is
    (λ before.
    let f : IsFormatted v = subst F (sym c.self.view_is) c.requires.formatted before in
    let least = c.self.invariant.least in
    let space = c.self.invariant.true_of before in
    c.len-n.ensures ∙ space.len ∙ formatted-count v f.header (omega arith))

pub fetch-requires : goal.fetch-requires
fetch-requires g c = record {
  there = λ now.
      let room : ℕ = room_for c.self.inside.spacing c.self.inside.blocks.room (vec_len c.self.inside.space.contents) (vec_capacity c.self.inside.space.contents) in
      let v : VolumeState = volume_of c.self.inside.blocks c.self.inside.sizes.items c.self.inside.spacing room in
      let F : VolumeState → Type 0 = λ u. IsTrue u.is_sound → IsFormatted u in
      let s1 : c.grow.new.self.size ≡ v.size = c.grow.ensures.size in
      let s2 : c.write_head.new.self.size ≡ v.size = ap (λ (b : Buffered). b.size) c.write_head.ensures.rest ∙ s1 in
      let b1 : c.grow.new.self.is_sound ≡ v.is_sound = c.in_ok-grow.ensures.sound in
      let b2 : c.write_head.new.self.is_sound ≡ v.is_sound = ap (λ (b : Buffered). b.is_sound) c.write_head.ensures.rest ∙ b1 in
      let before : IsTrue v.is_sound = rw (← b2) now in
      let f : IsFormatted v = subst F (sym c.self.view_is) c.requires.formatted before in
      let least = c.self.invariant.least in
      let space = c.self.invariant.true_of before in
      let n : ℕ = (header_of v.image).count in
      let len : c.len-n.result ≡ n = c.len-n.ensures ∙ space.len ∙ formatted-count v f.header (omega arith) in
      let t1 : IsTrue c.grow.new.self.is_sound = rw b1 before in
      let i1 : c.grow.new.self.image ≡ grown v.size v.image 1 = c.in_ok-grow.ensures.image before in
      let long : length c.grow.new.self.image ≡ length v.image + 1 * v.size = ap length i1 ∙ length-grown v.size 1 v.image in
      let first = f.header.first in
      let there1 : HasBlock c.grow.new.self.size c.grow.new.self.image 0 = rw s1 (omega arith) in
      let c2 : ChangesBlock v.size 0 c.grow.new.self.image c.write_head.new.self.image = rw s1 at (c.write_head.ensures.others t1 there1) in
      let whole = f.header.whole in
      let positive : 0 < n = formatted-some v f.header (omega arith) in
      let longer = c2.len in
      let fits : HasBlock v.size c.write_head.new.self.image n = omega arith in
      (rw len positive, rw (s2, len) fits);
}

pub invariant_of-self-in_err-grow : goal.invariant_of-self-in_err-grow
invariant_of-self-in_err-grow g c = record {
  least = rw c.grow.ensures.size c.self.invariant.least;
  most = rw c.grow.ensures.size c.self.invariant.most;
  eighths = rw c.grow.ensures.size c.self.invariant.eighths;
  fits = rw c.grow.ensures.size c.self.invariant.fits;
  small = rw c.in_ok-make_room.ensures.len c.self.invariant.small;
  true_of = λ now.
      let kept = grow-kept c.in_err-grow.field-0.0 c.self.inside.blocks.room c.self.inside.blocks.is_sound c.grow.new.self.is_sound c.self.inside.blocks.image c.grow.new.self.image
      c.in_err-grow.ensures.refusal c.in_err-grow.ensures.sound now c.in_err-grow.ensures.kept in
      let old = c.self.invariant.true_of kept.0 in
      let e = c.in_ok-make_room.ensures in
      let free = e.free in
      rw (c.grow.ensures.size, kept.1) (record {
        len = e.len ∙ old.len;
        contents = λ m some below. (let same : content_at c.make_room.new.space m ≡ content_at c.self.inside.space m = ap (λ xs. slice_index_or xs m (record { kind = 0; hole = 0 })) e.contents in rw same (old.contents m some below));
        lowest = λ k m some under below is. (let same : content_at c.make_room.new.space m ≡ content_at c.self.inside.space m = ap (λ xs. slice_index_or xs m (record { kind = 0; hole = 0 })) e.contents in
            rw same (old.lowest k m some (rw e.lowest at under) below (rw same at is)));
        free = free.0 ∙ old.free;
        lowest_free = λ m some under below three. old.lowest_free m some (rw free.1 at under) below three;
      });
}
