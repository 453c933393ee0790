use Rattle.std.proofs.Common.{◌≡◌, ℕ, ◌+◌, ◌-◌, ◌/◌, ◌%◌, ◌<◌, ◌≤◌, List, length, vec_len, IsTrue, refl, subst, sym, ap, ◌∙◌, arith}
use Rattle.std.specs.Vec.{vec_capacity}
use Rattle.hd_bytes.specs.Blocks.{block_of, HasBlock}
use Rattle.hd_bytes.specs.Ranges.{with_bytes}
use Rattle.hd_volume.specs.Buffers.{Buffered}
use Rattle.hd_volume.specs.Edits.{IsGiven}
use Rattle.hd_volume.specs.Images.{ChangesBlock}
use Rattle.hd_volume.specs.Volumes.{VolumeState, block_at, IsFormatted}
use Rattle.hd_volume.specs.Calls.{HasSegment, IsRewritten}
use Rattle.hd_volume.specs.Steps.{IsLengthAt}
use Rattle.hd_volume.specs.Spaces.{volume_of, room_for}
use Rattle.hd_volume.proofs.MapLemmas.{find-there}
use Rattle.hd_volume.proofs.FrameLemmas.{HasChanged}
use Rattle.hd_volume.proofs.PutLemmas.{changes-both}
use Rattle.hd_volume.proofs.CallLemmas.{IsOpened, changed-by, segment-size, segment-within}
use Rattle.hd_volume.proofs.RewriteLemmas.{same-rewrites, same-space, shrink-rewrites, shrink-space}
use Rattle.hd_volume.proofs.volume.Volume.write_shorter.Goals as goal
use Rattle.hd_volume.proofs.volume.Volume.write_shorter.Goals.{then-at-lt8-via-then-at-lt8, then-at-lt8-via-else-at-lt8+then-len-size}
use Rattle.hd_block.specs.Sizes.{size_at}

pub fetch-requires : goal.fetch-requires
fetch-requires g c = record {
  there =
      let P : VolumeState → Type 0 = λ v. IsTrue v.is_sound → (0 < c.args.address / v.size) × HasBlock v.size v.image (c.args.address / v.size) in
      let there = subst P (sym c.self.view_is) (λ sound. let k = find-there c.args.self.now c.args.address _ (c.requires.formatted sound) (c.requires.there sound) in (k.later, k.there)) in
      rw c.place-n.ensures.number there;
}

pub returns-then-at-lt8-clause-written : goal.returns-then-at-lt8-clause-written
returns-then-at-lt8-clause-written g c sound =
    let v : VolumeState = c.args.self.now in
    let a : ℕ = c.args.address in
    let bs : c.block_size-size.result ≡ v.size = c.block_size-size.ensures.value ∙ ap (λ (u : VolumeState). u.size) c.self.view_is in
    let f : IsFormatted v = c.requires.formatted sound in
    let h : HasSegment v a 0 = c.requires.there sound in
    let fits = segment-within v a 0 f h in
    let sized = segment-size v a 0 f h in
    let long : c.args.len ≡ length h.bytes = c.requires.length sound h.bytes h.is in
    let at : c.place-n.result.1 ≡ a % v.size = c.place-n.ensures.offset ∙ ap (λ (u : VolumeState). a % u.size) c.self.view_is in
    absurd (elim c.then-at-lt8.branch [
      | then-at-lt8-via-then-at-lt8 w ↦ (let over = w.if-at-lt8.true in omega arith)
      | then-at-lt8-via-else-at-lt8+then-len-size w ↦ (let over = w.if-len-size.true in omega arith)
    ])

pub invariant_of-self-then-bytes-len : goal.invariant_of-self-then-bytes-len
invariant_of-self-then-bytes-len g c =
    let room : ℕ = room_for c.self.inside.spacing c.self.inside.blocks.room (vec_len c.self.inside.space.contents) (vec_capacity c.self.inside.space.contents) in
    let v : VolumeState = volume_of c.self.inside.blocks c.self.inside.sizes.items c.self.inside.spacing room in
    let a : ℕ = c.args.address in
    let bytes : List ℕ = c.args.bytes.now in
    let F : VolumeState → Type 0 = λ u. IsTrue u.is_sound → IsFormatted u in
    let T : VolumeState → Type 0 = λ u. IsTrue u.is_sound → HasSegment u a 0 in
    let L : VolumeState → Type 0 = λ u. IsTrue u.is_sound → IsLengthAt u a c.args.len in
    let W : VolumeState → Type 0 = λ u. (0 < length bytes) × (size_at u.sizes bytes 0 ≡ length bytes) in
    let whole = subst W (sym c.self.view_is) c.requires.whole in
    let w : VolumeState = volume_of c.write_hand.new.self c.self.inside.sizes.items c.self.inside.spacing room in
    let size : c.write_hand.new.self.size ≡ v.size = ap (λ (b : Buffered). b.size) c.write_hand.ensures.rest ∙ c.fetch.ensures.size in
    let sound-is : c.write_hand.new.self.is_sound ≡ v.is_sound = ap (λ (b : Buffered). b.is_sound) c.write_hand.ensures.rest ∙ c.in_ok-fetch.ensures.sound in
    record {
      least = rw size c.self.invariant.least;
      most = rw size c.self.invariant.most;
      eighths = rw size c.self.invariant.eighths;
      fits = rw size c.self.invariant.fits;
      small = c.self.invariant.small;
      true_of = λ sound.
          let before : IsTrue v.is_sound = rw (← sound-is) sound in
          let f : IsFormatted v = subst F (sym c.self.view_is) c.requires.formatted before in
          let h : HasSegment v a 0 = subst T (sym c.self.view_is) c.requires.there before in
          let long : c.args.len ≡ length h.bytes = subst L (sym c.self.view_is) c.requires.length before h.bytes h.is in
          let now : IsTrue c.fetch.new.self.is_sound = rw c.in_ok-fetch.ensures.sound before in
          let there = find-there v a 0 f h in
          let later = there.later in
          let hand : c.fetch.new.self.hand ≡ a / v.size = c.in_ok-fetch.ensures.hand ∙ c.place-n.ensures.number in
          let some : 0 < c.fetch.new.self.hand = omega arith in
          let image : c.fetch.new.self.image ≡ v.image = c.in_ok-fetch.ensures.image before in
          let at : c.place-n.result.1 ≡ a % v.size = c.place-n.ensures.offset in
          let least = c.self.invariant.least in
          let changed : HasChanged v w (a / v.size) = changed-by v w c.fetch.new.self.size c.fetch.new.self.hand (a / v.size) c.fetch.new.self.image size refl c.fetch.ensures.size image hand (c.write_hand.ensures.others now some) in
          let new : block_of v.size w.image (a / v.size) ≡ with_bytes (block_at v (a / v.size)) (a % v.size) bytes = rw (c.fetch.ensures.size, image, hand, at) at (c.write_hand.ensures.block now some) in
          let same : length h.bytes ≡ length bytes = (let e = c.if-bytes-len.true in omega arith) in
          rw size (same-space v w a bytes f h (omega arith) changed same whole.1 new c.self.inside.space (c.self.invariant.true_of before));
    }

pub returns-then-bytes-len-clause-written : goal.returns-then-bytes-len-clause-written
returns-then-bytes-len-clause-written g c =
    let room : ℕ = room_for c.self.inside.spacing c.self.inside.blocks.room (vec_len c.self.inside.space.contents) (vec_capacity c.self.inside.space.contents) in
    let v : VolumeState = volume_of c.self.inside.blocks c.self.inside.sizes.items c.self.inside.spacing room in
    let a : ℕ = c.args.address in
    let bytes : List ℕ = c.args.bytes.now in
    let F : VolumeState → Type 0 = λ u. IsTrue u.is_sound → IsFormatted u in
    let T : VolumeState → Type 0 = λ u. IsTrue u.is_sound → HasSegment u a 0 in
    let L : VolumeState → Type 0 = λ u. IsTrue u.is_sound → IsLengthAt u a c.args.len in
    let W : VolumeState → Type 0 = λ u. (0 < length bytes) × (size_at u.sizes bytes 0 ≡ length bytes) in
    let whole = subst W (sym c.self.view_is) c.requires.whole in
    let room2 : ℕ = room_for c.self.inside.spacing c.write_hand.new.self.room (vec_len c.self.inside.space.contents) (vec_capacity c.self.inside.space.contents) in
    let w : VolumeState = volume_of c.write_hand.new.self c.self.inside.sizes.items c.self.inside.spacing room2 in
    let size : c.write_hand.new.self.size ≡ v.size = ap (λ (b : Buffered). b.size) c.write_hand.ensures.rest ∙ c.fetch.ensures.size in
    let P : VolumeState → Type 0 = λ u. IsTrue u.is_sound → IsRewritten u a a bytes w in
    subst P c.self.view_is
    (λ before.
    let f : IsFormatted v = subst F (sym c.self.view_is) c.requires.formatted before in
    let h : HasSegment v a 0 = subst T (sym c.self.view_is) c.requires.there before in
    let long : c.args.len ≡ length h.bytes = subst L (sym c.self.view_is) c.requires.length before h.bytes h.is in
    let now : IsTrue c.fetch.new.self.is_sound = rw c.in_ok-fetch.ensures.sound before in
    let there = find-there v a 0 f h in
    let later = there.later in
    let hand : c.fetch.new.self.hand ≡ a / v.size = c.in_ok-fetch.ensures.hand ∙ c.place-n.ensures.number in
    let some : 0 < c.fetch.new.self.hand = omega arith in
    let image : c.fetch.new.self.image ≡ v.image = c.in_ok-fetch.ensures.image before in
    let at : c.place-n.result.1 ≡ a % v.size = c.place-n.ensures.offset in
    let least = c.self.invariant.least in
    let changed : HasChanged v w (a / v.size) = changed-by v w c.fetch.new.self.size c.fetch.new.self.hand (a / v.size) c.fetch.new.self.image size refl c.fetch.ensures.size image hand (c.write_hand.ensures.others now some) in
    let new : block_of v.size w.image (a / v.size) ≡ with_bytes (block_at v (a / v.size)) (a % v.size) bytes = rw (c.fetch.ensures.size, image, hand, at) at (c.write_hand.ensures.block now some) in
    let same : length h.bytes ≡ length bytes = (let e = c.if-bytes-len.true in omega arith) in
    same-rewrites v w a bytes f h (omega arith) changed same whole.1 new)

pub invariant_of-self-2 : goal.invariant_of-self-2
invariant_of-self-2 g c =
    let room : ℕ = room_for c.self.inside.spacing c.self.inside.blocks.room (vec_len c.self.inside.space.contents) (vec_capacity c.self.inside.space.contents) in
    let v : VolumeState = volume_of c.self.inside.blocks c.self.inside.sizes.items c.self.inside.spacing room in
    let a : ℕ = c.args.address in
    let bytes : List ℕ = c.args.bytes.now in
    let F : VolumeState → Type 0 = λ u. IsTrue u.is_sound → IsFormatted u in
    let T : VolumeState → Type 0 = λ u. IsTrue u.is_sound → HasSegment u a 0 in
    let L : VolumeState → Type 0 = λ u. IsTrue u.is_sound → IsLengthAt u a c.args.len in
    let W : VolumeState → Type 0 = λ u. (0 < length bytes) × (size_at u.sizes bytes 0 ≡ length bytes) in
    let whole = subst W (sym c.self.view_is) c.requires.whole in
    let w : VolumeState = volume_of c.give.new.self c.self.inside.sizes.items c.self.inside.spacing room in
    let size : c.give.new.self.size ≡ v.size = ap (λ (b : Buffered). b.size) c.give.ensures.rest ∙ (ap (λ (b : Buffered). b.size) c.write_hand.ensures.rest ∙ c.fetch.ensures.size) in
    let sound-is : c.give.new.self.is_sound ≡ v.is_sound = ap (λ (b : Buffered). b.is_sound) c.give.ensures.rest ∙ (ap (λ (b : Buffered). b.is_sound) c.write_hand.ensures.rest ∙ c.in_ok-fetch.ensures.sound) in
    record {
      least = rw size c.self.invariant.least;
      most = rw size c.self.invariant.most;
      eighths = rw size c.self.invariant.eighths;
      fits = rw size c.self.invariant.fits;
      small = rw c.open_block.ensures.len c.self.invariant.small;
      true_of = λ sound.
          let before : IsTrue v.is_sound = rw (← sound-is) sound in
          let f : IsFormatted v = subst F (sym c.self.view_is) c.requires.formatted before in
          let h : HasSegment v a 0 = subst T (sym c.self.view_is) c.requires.there before in
          let long : c.args.len ≡ length h.bytes = subst L (sym c.self.view_is) c.requires.length before h.bytes h.is in
          let now : IsTrue c.fetch.new.self.is_sound = rw c.in_ok-fetch.ensures.sound before in
          let there = find-there v a 0 f h in
          let later = there.later in
          let hand : c.fetch.new.self.hand ≡ a / v.size = c.in_ok-fetch.ensures.hand ∙ c.place-n.ensures.number in
          let some : 0 < c.fetch.new.self.hand = omega arith in
          let image : c.fetch.new.self.image ≡ v.image = c.in_ok-fetch.ensures.image before in
          let at : c.place-n.result.1 ≡ a % v.size = c.place-n.ensures.offset in
          let least = c.self.invariant.least in
          let w-size : c.write_hand.new.self.size ≡ v.size = ap (λ (b : Buffered). b.size) c.write_hand.ensures.rest ∙ c.fetch.ensures.size in
          let w-hand : c.write_hand.new.self.hand ≡ a / v.size = ap (λ (b : Buffered). b.hand) c.write_hand.ensures.rest ∙ hand in
          let w-now : IsTrue c.write_hand.new.self.is_sound = rw (ap (λ (b : Buffered). b.is_sound) c.write_hand.ensures.rest) now in
          let w-some : 0 < c.write_hand.new.self.hand = omega arith in
          let first : ChangesBlock v.size (a / v.size) v.image c.write_hand.new.self.image = rw (c.fetch.ensures.size, image, hand) at (c.write_hand.ensures.others now some) in
          let second : ChangesBlock v.size (a / v.size) c.write_hand.new.self.image c.give.new.self.image = rw (w-size, w-hand) at (c.give.ensures.others w-now w-some) in
          let changed : HasChanged v w (a / v.size) = record { same = record { size = size; sizes = refl }; change = changes-both v.size (a / v.size) v.image c.write_hand.new.self.image c.give.new.self.image first second } in
          let new : block_of v.size c.write_hand.new.self.image (a / v.size) ≡ with_bytes (block_at v (a / v.size)) (a % v.size) bytes = rw (c.fetch.ensures.size, image, hand, at) at (c.write_hand.ensures.block now some) in
          let given : IsGiven v.sizes (a % v.size + length bytes) (length h.bytes - length bytes) (with_bytes (block_at v (a / v.size)) (a % v.size) bytes) (block_of v.size w.image (a / v.size)) =
          rw (c.deref.ensures.value, w-size, w-hand, new, at, long) at (c.give.ensures.block w-now w-some) in
          let eighths : length bytes % 8 ≡ 0 = rw whole.1 at (c.self.invariant.fits.whole bytes 0) in
          let eight : 8 ≤ length bytes = (let l = whole.0 in omega arith) in
          let less : length bytes < length h.bytes = (let l = c.requires.fits.0 in let apart = c.if-bytes-len.false in omega arith) in
          let number : c.place-n.result.0 ≡ a / v.size = c.place-n.ensures.number in
          let here : IsOpened c.self.inside.space c.place-n.result.0 c.block_size-size.result c.open_block.new.space = record { contents = c.open_block.ensures.contents; len = c.open_block.ensures.len; lowest = c.open_block.ensures.lowest } in
          let O : ℕ → Type 0 = λ n. IsOpened c.self.inside.space n c.block_size-size.result c.open_block.new.space in
          let opened : IsOpened c.self.inside.space (a / v.size) c.block_size-size.result c.open_block.new.space = subst O number here in
          rw size (shrink-space v w a bytes f h (omega arith) changed eight eighths less whole.1 given c.self.inside.space c.open_block.new.space c.block_size-size.result (c.self.invariant.true_of before) opened c.open_block.ensures.free c.open_block.ensures.lowest_free c.block_size-size.ensures.value);
    }

pub returns-clause-written : goal.returns-clause-written
returns-clause-written g c =
    let room : ℕ = room_for c.self.inside.spacing c.self.inside.blocks.room (vec_len c.self.inside.space.contents) (vec_capacity c.self.inside.space.contents) in
    let v : VolumeState = volume_of c.self.inside.blocks c.self.inside.sizes.items c.self.inside.spacing room in
    let a : ℕ = c.args.address in
    let bytes : List ℕ = c.args.bytes.now in
    let F : VolumeState → Type 0 = λ u. IsTrue u.is_sound → IsFormatted u in
    let T : VolumeState → Type 0 = λ u. IsTrue u.is_sound → HasSegment u a 0 in
    let L : VolumeState → Type 0 = λ u. IsTrue u.is_sound → IsLengthAt u a c.args.len in
    let W : VolumeState → Type 0 = λ u. (0 < length bytes) × (size_at u.sizes bytes 0 ≡ length bytes) in
    let whole = subst W (sym c.self.view_is) c.requires.whole in
    let room2 : ℕ = room_for c.self.inside.spacing c.give.new.self.room (vec_len c.open_block.new.space.contents) (vec_capacity c.open_block.new.space.contents) in
    let w : VolumeState = volume_of c.give.new.self c.self.inside.sizes.items c.self.inside.spacing room2 in
    let size : c.give.new.self.size ≡ v.size = ap (λ (b : Buffered). b.size) c.give.ensures.rest ∙ (ap (λ (b : Buffered). b.size) c.write_hand.ensures.rest ∙ c.fetch.ensures.size) in
    let P : VolumeState → Type 0 = λ u. IsTrue u.is_sound → IsRewritten u a a bytes w in
    subst P c.self.view_is
    (λ before.
    let f : IsFormatted v = subst F (sym c.self.view_is) c.requires.formatted before in
    let h : HasSegment v a 0 = subst T (sym c.self.view_is) c.requires.there before in
    let long : c.args.len ≡ length h.bytes = subst L (sym c.self.view_is) c.requires.length before h.bytes h.is in
    let now : IsTrue c.fetch.new.self.is_sound = rw c.in_ok-fetch.ensures.sound before in
    let there = find-there v a 0 f h in
    let later = there.later in
    let hand : c.fetch.new.self.hand ≡ a / v.size = c.in_ok-fetch.ensures.hand ∙ c.place-n.ensures.number in
    let some : 0 < c.fetch.new.self.hand = omega arith in
    let image : c.fetch.new.self.image ≡ v.image = c.in_ok-fetch.ensures.image before in
    let at : c.place-n.result.1 ≡ a % v.size = c.place-n.ensures.offset in
    let least = c.self.invariant.least in
    let w-size : c.write_hand.new.self.size ≡ v.size = ap (λ (b : Buffered). b.size) c.write_hand.ensures.rest ∙ c.fetch.ensures.size in
    let w-hand : c.write_hand.new.self.hand ≡ a / v.size = ap (λ (b : Buffered). b.hand) c.write_hand.ensures.rest ∙ hand in
    let w-now : IsTrue c.write_hand.new.self.is_sound = rw (ap (λ (b : Buffered). b.is_sound) c.write_hand.ensures.rest) now in
    let w-some : 0 < c.write_hand.new.self.hand = omega arith in
    let first : ChangesBlock v.size (a / v.size) v.image c.write_hand.new.self.image = rw (c.fetch.ensures.size, image, hand) at (c.write_hand.ensures.others now some) in
    let second : ChangesBlock v.size (a / v.size) c.write_hand.new.self.image c.give.new.self.image = rw (w-size, w-hand) at (c.give.ensures.others w-now w-some) in
    let changed : HasChanged v w (a / v.size) = record { same = record { size = size; sizes = refl }; change = changes-both v.size (a / v.size) v.image c.write_hand.new.self.image c.give.new.self.image first second } in
    let new : block_of v.size c.write_hand.new.self.image (a / v.size) ≡ with_bytes (block_at v (a / v.size)) (a % v.size) bytes = rw (c.fetch.ensures.size, image, hand, at) at (c.write_hand.ensures.block now some) in
    let given : IsGiven v.sizes (a % v.size + length bytes) (length h.bytes - length bytes) (with_bytes (block_at v (a / v.size)) (a % v.size) bytes) (block_of v.size w.image (a / v.size)) =
    rw (c.deref.ensures.value, w-size, w-hand, new, at, long) at (c.give.ensures.block w-now w-some) in
    let eighths : length bytes % 8 ≡ 0 = rw whole.1 at (c.self.invariant.fits.whole bytes 0) in
    let eight : 8 ≤ length bytes = (let l = whole.0 in omega arith) in
    let less : length bytes < length h.bytes = (let l = c.requires.fits.0 in let apart = c.if-bytes-len.false in omega arith) in
    shrink-rewrites v w a bytes f h (omega arith) changed eight eighths less whole.1 given)
