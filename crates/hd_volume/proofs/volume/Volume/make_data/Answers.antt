use Rattle.std.proofs.Common.{◌≡◌, ℕ, ◌/◌, ◌%◌, ◌+◌, ◌-◌, ◌*◌, ◌<◌, vec_len, IsTrue, refl, subst, sym, ap, ◌∙◌, arith}
use Rattle.std.specs.Vec.{vec_capacity}
use Rattle.hd_bytes.specs.Blocks.{block_of}
use Rattle.hd_bytes.specs.Ranges.{with_bytes}
use Rattle.hd_volume.specs.Buffers.{Buffered}
use Rattle.hd_volume.specs.Volumes.{VolumeState, block_at, IsKind, IsFormatted}
use Rattle.hd_volume.specs.Steps.{HasRoom, HasNone, IsMade, data_head}
use Rattle.hd_volume.specs.Calls.{AreZero}
use Rattle.hd_volume.specs.Spaces.{volume_of, room_for}
use Rattle.hd_volume.proofs.FrameLemmas.{HasChanged}
use Rattle.hd_volume.proofs.CallLemmas.{changed-by}
use Rattle.hd_volume.proofs.KindLemmas.{data-made, data-room, data-none, data-unused, data-space}
use Rattle.hd_volume.proofs.volume.Volume.make_data.Goals as goal

pub invariant_of-self-2 : goal.invariant_of-self-2
invariant_of-self-2 g c =
    let room : ℕ = room_for c.self.inside.spacing c.self.inside.blocks.room (vec_len c.self.inside.space.contents) (vec_capacity c.self.inside.space.contents) in
    let v : VolumeState = volume_of c.self.inside.blocks c.self.inside.sizes.items c.self.inside.spacing room in
    let n : ℕ = c.args.n in
    let high : ℕ = (c.block_size.result - 8) / 256 in
    let low : ℕ = (c.block_size.result - 8) % 256 in
    let F : VolumeState → Type 0 = λ u. IsTrue u.is_sound → IsFormatted u in
    let K : VolumeState → Type 0 = λ u. IsTrue u.is_sound → IsKind u 3 n in
    let size : c.write_hand.new.self.size ≡ v.size = ap (λ (b : Buffered). b.size) c.write_hand.ensures.rest ∙ c.fetch.ensures.size in
    let sound-is : c.write_hand.new.self.is_sound ≡ v.is_sound = ap (λ (b : Buffered). b.is_sound) c.write_hand.ensures.rest ∙ c.in_ok-fetch.ensures.sound in
    let bs : c.block_size.result ≡ v.size = c.block_size.ensures.value in
    let hole : c.block_size.result - 8 ≡ v.size - 8 = ap (λ (k : ℕ). k - 8) bs in
    let size-is : high * 256 + low ≡ v.size - 8 = omega arith in
    let w : VolumeState = volume_of c.write_hand.new.self c.self.inside.sizes.items c.self.inside.spacing room in
    record {
      least = rw size c.self.invariant.least;
      most = rw size c.self.invariant.most;
      eighths = rw size c.self.invariant.eighths;
      fits = rw size c.self.invariant.fits;
      small = rw c.fill_free.ensures.len c.self.invariant.small;
      true_of = λ sound.
          let before : IsTrue v.is_sound = rw (← sound-is) sound in
          let f : IsFormatted v = subst F (sym c.self.view_is) c.requires.formatted before in
          let k : IsKind v 3 n = subst K (sym c.self.view_is) c.requires.free before in
          let now : IsTrue c.fetch.new.self.is_sound = rw c.in_ok-fetch.ensures.sound before in
          let later = k.later in
          let hand : c.fetch.new.self.hand ≡ n = c.in_ok-fetch.ensures.hand in
          let some : 0 < c.fetch.new.self.hand = omega arith in
          let image : c.fetch.new.self.image ≡ v.image = c.in_ok-fetch.ensures.image before in
          let changed : HasChanged v w n = changed-by v w c.fetch.new.self.size c.fetch.new.self.hand n c.fetch.new.self.image size refl c.fetch.ensures.size image hand (c.write_hand.ensures.others now some) in
          let new : block_of v.size w.image n ≡ with_bytes (block_at v n) 0 (data_head high low) = rw (c.fetch.ensures.size, image, hand, c.data_head.ensures) at (c.write_hand.ensures.block now some) in
          let least = c.self.invariant.least in
          rw size (data-space v w n high low f k least c.self.invariant.eighths changed new size-is c.self.inside.space c.fill_free.new.space (c.block_size.result - 8) (c.self.invariant.true_of before) hole
          c.fill_free.ensures.contents c.fill_free.ensures.len c.fill_free.ensures.lowest (c.fill_free.ensures.opened refl) c.fill_free.ensures.free c.fill_free.ensures.lowest_free);
    }

pub returns-clause-made : goal.returns-clause-made
returns-clause-made g c =
    let room : ℕ = room_for c.self.inside.spacing c.self.inside.blocks.room (vec_len c.self.inside.space.contents) (vec_capacity c.self.inside.space.contents) in
    let v : VolumeState = volume_of c.self.inside.blocks c.self.inside.sizes.items c.self.inside.spacing room in
    let n : ℕ = c.args.n in
    let high : ℕ = (c.block_size.result - 8) / 256 in
    let low : ℕ = (c.block_size.result - 8) % 256 in
    let F : VolumeState → Type 0 = λ u. IsTrue u.is_sound → IsFormatted u in
    let K : VolumeState → Type 0 = λ u. IsTrue u.is_sound → IsKind u 3 n in
    let size : c.write_hand.new.self.size ≡ v.size = ap (λ (b : Buffered). b.size) c.write_hand.ensures.rest ∙ c.fetch.ensures.size in
    let sound-is : c.write_hand.new.self.is_sound ≡ v.is_sound = ap (λ (b : Buffered). b.is_sound) c.write_hand.ensures.rest ∙ c.in_ok-fetch.ensures.sound in
    let bs : c.block_size.result ≡ v.size = c.block_size.ensures.value in
    let hole : c.block_size.result - 8 ≡ v.size - 8 = ap (λ (k : ℕ). k - 8) bs in
    let size-is : high * 256 + low ≡ v.size - 8 = omega arith in
    let room2 : ℕ = room_for c.self.inside.spacing c.write_hand.new.self.room (vec_len c.fill_free.new.space.contents) (vec_capacity c.fill_free.new.space.contents) in
    let w : VolumeState = volume_of c.write_hand.new.self c.self.inside.sizes.items c.self.inside.spacing room2 in
    let P : VolumeState → Type 0 = λ u. IsTrue u.is_sound → IsMade u n 1 w in
    subst P c.self.view_is
    (λ before.
    let f : IsFormatted v = subst F (sym c.self.view_is) c.requires.formatted before in
    let k : IsKind v 3 n = subst K (sym c.self.view_is) c.requires.free before in
    let now : IsTrue c.fetch.new.self.is_sound = rw c.in_ok-fetch.ensures.sound before in
    let later = k.later in
    let hand : c.fetch.new.self.hand ≡ n = c.in_ok-fetch.ensures.hand in
    let some : 0 < c.fetch.new.self.hand = omega arith in
    let image : c.fetch.new.self.image ≡ v.image = c.in_ok-fetch.ensures.image before in
    let changed : HasChanged v w n = changed-by v w c.fetch.new.self.size c.fetch.new.self.hand n c.fetch.new.self.image size refl c.fetch.ensures.size image hand (c.write_hand.ensures.others now some) in
    let new : block_of v.size w.image n ≡ with_bytes (block_at v n) 0 (data_head high low) = rw (c.fetch.ensures.size, image, hand, c.data_head.ensures) at (c.write_hand.ensures.block now some) in
    let least = c.self.invariant.least in
    data-made v w n high low f k least c.self.invariant.eighths changed new size-is)

pub returns-clause-has_room : goal.returns-clause-has_room
returns-clause-has_room g c =
    let room : ℕ = room_for c.self.inside.spacing c.self.inside.blocks.room (vec_len c.self.inside.space.contents) (vec_capacity c.self.inside.space.contents) in
    let v : VolumeState = volume_of c.self.inside.blocks c.self.inside.sizes.items c.self.inside.spacing room in
    let n : ℕ = c.args.n in
    let high : ℕ = (c.block_size.result - 8) / 256 in
    let low : ℕ = (c.block_size.result - 8) % 256 in
    let F : VolumeState → Type 0 = λ u. IsTrue u.is_sound → IsFormatted u in
    let K : VolumeState → Type 0 = λ u. IsTrue u.is_sound → IsKind u 3 n in
    let size : c.write_hand.new.self.size ≡ v.size = ap (λ (b : Buffered). b.size) c.write_hand.ensures.rest ∙ c.fetch.ensures.size in
    let sound-is : c.write_hand.new.self.is_sound ≡ v.is_sound = ap (λ (b : Buffered). b.is_sound) c.write_hand.ensures.rest ∙ c.in_ok-fetch.ensures.sound in
    let bs : c.block_size.result ≡ v.size = c.block_size.ensures.value in
    let hole : c.block_size.result - 8 ≡ v.size - 8 = ap (λ (k : ℕ). k - 8) bs in
    let size-is : high * 256 + low ≡ v.size - 8 = omega arith in
    let room2 : ℕ = room_for c.self.inside.spacing c.write_hand.new.self.room (vec_len c.fill_free.new.space.contents) (vec_capacity c.fill_free.new.space.contents) in
    let w : VolumeState = volume_of c.write_hand.new.self c.self.inside.sizes.items c.self.inside.spacing room2 in
    let P : VolumeState → Type 0 = λ u. IsTrue u.is_sound → HasRoom w n (u.size - 8) in
    subst P c.self.view_is
    (λ before.
    let f : IsFormatted v = subst F (sym c.self.view_is) c.requires.formatted before in
    let k : IsKind v 3 n = subst K (sym c.self.view_is) c.requires.free before in
    let now : IsTrue c.fetch.new.self.is_sound = rw c.in_ok-fetch.ensures.sound before in
    let later = k.later in
    let hand : c.fetch.new.self.hand ≡ n = c.in_ok-fetch.ensures.hand in
    let some : 0 < c.fetch.new.self.hand = omega arith in
    let image : c.fetch.new.self.image ≡ v.image = c.in_ok-fetch.ensures.image before in
    let changed : HasChanged v w n = changed-by v w c.fetch.new.self.size c.fetch.new.self.hand n c.fetch.new.self.image size refl c.fetch.ensures.size image hand (c.write_hand.ensures.others now some) in
    let new : block_of v.size w.image n ≡ with_bytes (block_at v n) 0 (data_head high low) = rw (c.fetch.ensures.size, image, hand, c.data_head.ensures) at (c.write_hand.ensures.block now some) in
    let least = c.self.invariant.least in
    data-room v w n high low f k least c.self.invariant.eighths changed new size-is)

pub returns-clause-empty : goal.returns-clause-empty
returns-clause-empty g c =
    let room : ℕ = room_for c.self.inside.spacing c.self.inside.blocks.room (vec_len c.self.inside.space.contents) (vec_capacity c.self.inside.space.contents) in
    let v : VolumeState = volume_of c.self.inside.blocks c.self.inside.sizes.items c.self.inside.spacing room in
    let n : ℕ = c.args.n in
    let high : ℕ = (c.block_size.result - 8) / 256 in
    let low : ℕ = (c.block_size.result - 8) % 256 in
    let F : VolumeState → Type 0 = λ u. IsTrue u.is_sound → IsFormatted u in
    let K : VolumeState → Type 0 = λ u. IsTrue u.is_sound → IsKind u 3 n in
    let size : c.write_hand.new.self.size ≡ v.size = ap (λ (b : Buffered). b.size) c.write_hand.ensures.rest ∙ c.fetch.ensures.size in
    let bs : c.block_size.result ≡ v.size = c.block_size.ensures.value in
    let hole : c.block_size.result - 8 ≡ v.size - 8 = ap (λ (k : ℕ). k - 8) bs in
    let size-is : high * 256 + low ≡ v.size - 8 = omega arith in
    let room2 : ℕ = room_for c.self.inside.spacing c.write_hand.new.self.room (vec_len c.fill_free.new.space.contents) (vec_capacity c.fill_free.new.space.contents) in
    let w : VolumeState = volume_of c.write_hand.new.self c.self.inside.sizes.items c.self.inside.spacing room2 in
    let P : VolumeState → Type 0 = λ u. IsTrue u.is_sound → HasNone w.sizes (block_at w n) in
    subst P c.self.view_is
    (λ before.
    let f : IsFormatted v = subst F (sym c.self.view_is) c.requires.formatted before in
    let k : IsKind v 3 n = subst K (sym c.self.view_is) c.requires.free before in
    let now : IsTrue c.fetch.new.self.is_sound = rw c.in_ok-fetch.ensures.sound before in
    let later = k.later in
    let hand : c.fetch.new.self.hand ≡ n = c.in_ok-fetch.ensures.hand in
    let some : 0 < c.fetch.new.self.hand = omega arith in
    let image : c.fetch.new.self.image ≡ v.image = c.in_ok-fetch.ensures.image before in
    let changed : HasChanged v w n = changed-by v w c.fetch.new.self.size c.fetch.new.self.hand n c.fetch.new.self.image size refl c.fetch.ensures.size image hand (c.write_hand.ensures.others now some) in
    let new : block_of v.size w.image n ≡ with_bytes (block_at v n) 0 (data_head high low) = rw (c.fetch.ensures.size, image, hand, c.data_head.ensures) at (c.write_hand.ensures.block now some) in
    let least = c.self.invariant.least in
    data-none v w n high low f k least c.self.invariant.eighths changed new size-is)

pub returns-clause-unused : goal.returns-clause-unused
returns-clause-unused g c =
    let room : ℕ = room_for c.self.inside.spacing c.self.inside.blocks.room (vec_len c.self.inside.space.contents) (vec_capacity c.self.inside.space.contents) in
    let v : VolumeState = volume_of c.self.inside.blocks c.self.inside.sizes.items c.self.inside.spacing room in
    let n : ℕ = c.args.n in
    let high : ℕ = (c.block_size.result - 8) / 256 in
    let low : ℕ = (c.block_size.result - 8) % 256 in
    let F : VolumeState → Type 0 = λ u. IsTrue u.is_sound → IsFormatted u in
    let K : VolumeState → Type 0 = λ u. IsTrue u.is_sound → IsKind u 3 n in
    let size : c.write_hand.new.self.size ≡ v.size = ap (λ (b : Buffered). b.size) c.write_hand.ensures.rest ∙ c.fetch.ensures.size in
    let bs : c.block_size.result ≡ v.size = c.block_size.ensures.value in
    let hole : c.block_size.result - 8 ≡ v.size - 8 = ap (λ (k : ℕ). k - 8) bs in
    let size-is : high * 256 + low ≡ v.size - 8 = omega arith in
    let room2 : ℕ = room_for c.self.inside.spacing c.write_hand.new.self.room (vec_len c.fill_free.new.space.contents) (vec_capacity c.fill_free.new.space.contents) in
    let w : VolumeState = volume_of c.write_hand.new.self c.self.inside.sizes.items c.self.inside.spacing room2 in
    let P : VolumeState → Type 0 = λ u. IsTrue u.is_sound → AreZero 3 5 (block_at w n) in
    subst P c.self.view_is
    (λ before.
    let f : IsFormatted v = subst F (sym c.self.view_is) c.requires.formatted before in
    let k : IsKind v 3 n = subst K (sym c.self.view_is) c.requires.free before in
    let now : IsTrue c.fetch.new.self.is_sound = rw c.in_ok-fetch.ensures.sound before in
    let later = k.later in
    let hand : c.fetch.new.self.hand ≡ n = c.in_ok-fetch.ensures.hand in
    let some : 0 < c.fetch.new.self.hand = omega arith in
    let image : c.fetch.new.self.image ≡ v.image = c.in_ok-fetch.ensures.image before in
    let changed : HasChanged v w n = changed-by v w c.fetch.new.self.size c.fetch.new.self.hand n c.fetch.new.self.image size refl c.fetch.ensures.size image hand (c.write_hand.ensures.others now some) in
    let new : block_of v.size w.image n ≡ with_bytes (block_at v n) 0 (data_head high low) = rw (c.fetch.ensures.size, image, hand, c.data_head.ensures) at (c.write_hand.ensures.block now some) in
    let least = c.self.invariant.least in
    data-unused v w n high low f k least c.self.invariant.eighths changed new size-is)
