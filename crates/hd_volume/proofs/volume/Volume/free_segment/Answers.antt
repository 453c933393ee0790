use Rattle.std.proofs.Common.{◌≡◌, ℕ, ◌/◌, ◌%◌, ◌<◌, length, vec_len, IsTrue, refl, subst, sym, ap, ◌∙◌, arith}
use Rattle.std.specs.Vec.{vec_capacity}
use Rattle.hd_bytes.specs.Blocks.{block_of, HasBlock}
use Rattle.hd_volume.specs.Edits.{IsGiven}
use Rattle.hd_volume.specs.Buffers.{Buffered}
use Rattle.hd_volume.specs.Volumes.{VolumeState, block_at, IsFormatted}
use Rattle.hd_volume.specs.Calls.{IsFreed, HasSegment}
use Rattle.hd_volume.specs.Spaces.{volume_of, room_for}
use Rattle.hd_volume.proofs.MapLemmas.{find-there}
use Rattle.hd_volume.proofs.FrameLemmas.{HasChanged}
use Rattle.hd_volume.proofs.CallLemmas.{free-frees, free-space, IsOpened, changed-by, segment-within, segment-size}
use Rattle.hd_volume.proofs.volume.Volume.free_segment.Goals as goal
use Rattle.hd_volume.proofs.volume.Volume.free_segment.Goals.{then-at-lt8-via-then-at-lt8, then-at-lt8-via-else-at-lt8+then-len-lt8, then-at-lt8-via-else-at-lt8+else-len-lt8+then-len-size}
use Rattle.hd_block.specs.Sizes.{size_at}

pub fetch-requires : goal.fetch-requires
fetch-requires g c = record {
  there =
      let P : VolumeState → Type 0 = λ v. IsTrue v.is_sound → (0 < c.args.address / v.size) × HasBlock v.size v.image (c.args.address / v.size) in
      let there = subst P (sym c.self.view_is) (λ sound. let k = find-there c.args.self.now c.args.address _ (c.requires.formatted sound) (c.requires.there sound) in (k.later, k.there)) in
      rw c.place-n.ensures.number there;
}

pub returns-then-at-lt8-clause-freed : goal.returns-then-at-lt8-clause-freed
returns-then-at-lt8-clause-freed g c sound =
    let room : ℕ = room_for c.self.inside.spacing c.self.inside.blocks.room (vec_len c.self.inside.space.contents) (vec_capacity c.self.inside.space.contents) in
    let v : VolumeState = volume_of c.self.inside.blocks c.self.inside.sizes.items c.self.inside.spacing room in
    let a : ℕ = c.args.address in
    let F : VolumeState → Type 0 = λ u. IsTrue u.is_sound → IsFormatted u in
    let T : VolumeState → Type 0 = λ u. IsTrue u.is_sound → HasSegment u a 0 in
    let B : VolumeState → Type 0 = λ u. IsTrue u.is_sound in
    let before : IsTrue v.is_sound = subst B (sym c.self.view_is) sound in
    let f : IsFormatted v = subst F (sym c.self.view_is) c.requires.formatted before in
    let h : HasSegment v a 0 = subst T (sym c.self.view_is) c.requires.there before in
    let now : IsTrue c.fetch.new.self.is_sound = rw c.in_ok-fetch.ensures.sound before in
    let there = find-there v a 0 f h in
    let later = there.later in
    let hand : c.fetch.new.self.hand ≡ a / v.size = c.in_ok-fetch.ensures.hand ∙ c.place-n.ensures.number in
    let some : 0 < c.fetch.new.self.hand = omega arith in
    let image : c.fetch.new.self.image ≡ v.image = c.in_ok-fetch.ensures.image before in
    let at : c.place-n.result.1 ≡ a % v.size = c.place-n.ensures.offset in
    let block : c.hand.result.now ≡ block_at v (a / v.size) = c.hand.ensures.value now some ∙ (let e : block_of c.fetch.new.self.size c.fetch.new.self.image c.fetch.new.self.hand ≡ block_at v (a / v.size) = rw (c.fetch.ensures.size, image, hand) refl in e) in
    let sized = segment-size v a 0 f h in
    let code : size_at c.deref.result.now c.hand.result.now c.place-n.result.1 ≡ size_at v.sizes (block_at v (a / v.size)) (a % v.size) = rw (c.deref.ensures.value, block, at) refl in
    let long : c.size_at-len.result ≡ length h.bytes = c.size_at-len.ensures ∙ code ∙ sized.0 in
    let fits = segment-within v a 0 f h in
    absurd (elim c.then-at-lt8.branch [
      | then-at-lt8-via-then-at-lt8 w ↦ (let over = w.if-at-lt8.true in omega arith)
      | then-at-lt8-via-else-at-lt8+then-len-lt8 w ↦ (let over = w.if-len-lt8.true in omega arith)
      | then-at-lt8-via-else-at-lt8+else-len-lt8+then-len-size w ↦ (let over = w.if-len-size.true in omega arith)
    ])

pub invariant_of-self-2 : goal.invariant_of-self-2
invariant_of-self-2 g c =
    let room : ℕ = room_for c.self.inside.spacing c.self.inside.blocks.room (vec_len c.self.inside.space.contents) (vec_capacity c.self.inside.space.contents) in
    let v : VolumeState = volume_of c.self.inside.blocks c.self.inside.sizes.items c.self.inside.spacing room in
    let a : ℕ = c.args.address in
    let F : VolumeState → Type 0 = λ u. IsTrue u.is_sound → IsFormatted u in
    let T : VolumeState → Type 0 = λ u. IsTrue u.is_sound → HasSegment u a 0 in
    let w : VolumeState = volume_of c.give.new.self c.self.inside.sizes.items c.self.inside.spacing room in
    let size : c.give.new.self.size ≡ v.size = ap (λ (b : Buffered). b.size) c.give.ensures.rest ∙ c.fetch.ensures.size in
    let sound-is : c.give.new.self.is_sound ≡ v.is_sound = ap (λ (b : Buffered). b.is_sound) c.give.ensures.rest ∙ c.in_ok-fetch.ensures.sound in
    record {
      least = rw size c.self.invariant.least;
      most = rw size c.self.invariant.most;
      eighths = rw size c.self.invariant.eighths;
      fits = rw size c.self.invariant.fits;
      small = rw c.open_block.ensures.len c.self.invariant.small;
      true_of = λ sound.
          let before : IsTrue v.is_sound = rw (← sound-is) sound in
          let f : IsFormatted v = subst F (sym c.self.view_is) c.requires.formatted before in
          let h : HasSegment v a 0 = subst T (sym c.self.view_is) c.requires.there before in
          let now : IsTrue c.fetch.new.self.is_sound = rw c.in_ok-fetch.ensures.sound before in
          let there = find-there v a 0 f h in
          let later = there.later in
          let hand : c.fetch.new.self.hand ≡ a / v.size = c.in_ok-fetch.ensures.hand ∙ c.place-n.ensures.number in
          let some : 0 < c.fetch.new.self.hand = omega arith in
          let image : c.fetch.new.self.image ≡ v.image = c.in_ok-fetch.ensures.image before in
          let at : c.place-n.result.1 ≡ a % v.size = c.place-n.ensures.offset in
          let block : c.hand.result.now ≡ block_at v (a / v.size) = c.hand.ensures.value now some ∙ (let e : block_of c.fetch.new.self.size c.fetch.new.self.image c.fetch.new.self.hand ≡ block_at v (a / v.size) = rw (c.fetch.ensures.size, image, hand) refl in e) in
          let sized = segment-size v a 0 f h in
          let code : size_at c.deref.result.now c.hand.result.now c.place-n.result.1 ≡ size_at v.sizes (block_at v (a / v.size)) (a % v.size) = rw (c.deref.ensures.value, block, at) refl in
          let long : c.size_at-len.result ≡ length h.bytes = c.size_at-len.ensures ∙ code ∙ sized.0 in
          let fits = segment-within v a 0 f h in
          let changed : HasChanged v w (a / v.size) = changed-by v w c.fetch.new.self.size c.fetch.new.self.hand (a / v.size) c.fetch.new.self.image size refl c.fetch.ensures.size image hand (c.give.ensures.others now some) in
          let new : IsGiven v.sizes (a % v.size) (length h.bytes) (block_at v (a / v.size)) (block_of v.size w.image (a / v.size)) =
          rw (c.deref-2.ensures.value, c.fetch.ensures.size, image, hand, at, long) at (c.give.ensures.block now some) in
          let least = c.self.invariant.least in
          let number : c.place-n.result.0 ≡ a / v.size = c.place-n.ensures.number in
          let here : IsOpened c.self.inside.space c.place-n.result.0 c.block_size-size.result c.open_block.new.space = record { contents = c.open_block.ensures.contents; len = c.open_block.ensures.len; lowest = c.open_block.ensures.lowest } in
          let O : ℕ → Type 0 = λ n. IsOpened c.self.inside.space n c.block_size-size.result c.open_block.new.space in
          let opened : IsOpened c.self.inside.space (a / v.size) c.block_size-size.result c.open_block.new.space = subst O number here in
          rw size (free-space v w a f h (omega arith) changed new c.self.inside.space c.open_block.new.space c.block_size-size.result (c.self.invariant.true_of before) opened c.open_block.ensures.free c.open_block.ensures.lowest_free c.block_size-size.ensures.value);
    }

pub returns-clause-freed : goal.returns-clause-freed
returns-clause-freed g c =
    let room : ℕ = room_for c.self.inside.spacing c.self.inside.blocks.room (vec_len c.self.inside.space.contents) (vec_capacity c.self.inside.space.contents) in
    let v : VolumeState = volume_of c.self.inside.blocks c.self.inside.sizes.items c.self.inside.spacing room in
    let a : ℕ = c.args.address in
    let F : VolumeState → Type 0 = λ u. IsTrue u.is_sound → IsFormatted u in
    let T : VolumeState → Type 0 = λ u. IsTrue u.is_sound → HasSegment u a 0 in
    let room2 : ℕ = room_for c.self.inside.spacing c.give.new.self.room (vec_len c.open_block.new.space.contents) (vec_capacity c.open_block.new.space.contents) in
    let w : VolumeState = volume_of c.give.new.self c.self.inside.sizes.items c.self.inside.spacing room2 in
    let size : c.give.new.self.size ≡ v.size = ap (λ (b : Buffered). b.size) c.give.ensures.rest ∙ c.fetch.ensures.size in
    let P : VolumeState → Type 0 = λ u. IsTrue u.is_sound → IsFreed u a w in
    subst P c.self.view_is
    (λ before.
    let f : IsFormatted v = subst F (sym c.self.view_is) c.requires.formatted before in
    let h : HasSegment v a 0 = subst T (sym c.self.view_is) c.requires.there before in
    let now : IsTrue c.fetch.new.self.is_sound = rw c.in_ok-fetch.ensures.sound before in
    let there = find-there v a 0 f h in
    let later = there.later in
    let hand : c.fetch.new.self.hand ≡ a / v.size = c.in_ok-fetch.ensures.hand ∙ c.place-n.ensures.number in
    let some : 0 < c.fetch.new.self.hand = omega arith in
    let image : c.fetch.new.self.image ≡ v.image = c.in_ok-fetch.ensures.image before in
    let at : c.place-n.result.1 ≡ a % v.size = c.place-n.ensures.offset in
    let block : c.hand.result.now ≡ block_at v (a / v.size) = c.hand.ensures.value now some ∙ (let e : block_of c.fetch.new.self.size c.fetch.new.self.image c.fetch.new.self.hand ≡ block_at v (a / v.size) = rw (c.fetch.ensures.size, image, hand) refl in e) in
    let sized = segment-size v a 0 f h in
    let code : size_at c.deref.result.now c.hand.result.now c.place-n.result.1 ≡ size_at v.sizes (block_at v (a / v.size)) (a % v.size) = rw (c.deref.ensures.value, block, at) refl in
    let long : c.size_at-len.result ≡ length h.bytes = c.size_at-len.ensures ∙ code ∙ sized.0 in
    let fits = segment-within v a 0 f h in
    let changed : HasChanged v w (a / v.size) = changed-by v w c.fetch.new.self.size c.fetch.new.self.hand (a / v.size) c.fetch.new.self.image size refl c.fetch.ensures.size image hand (c.give.ensures.others now some) in
    let new : IsGiven v.sizes (a % v.size) (length h.bytes) (block_at v (a / v.size)) (block_of v.size w.image (a / v.size)) =
    rw (c.deref-2.ensures.value, c.fetch.ensures.size, image, hand, at, long) at (c.give.ensures.block now some) in
    let least = c.self.invariant.least in
    free-frees v w a f h (omega arith) changed new)
