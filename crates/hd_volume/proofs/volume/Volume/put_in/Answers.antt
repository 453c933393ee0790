use Rattle.std.proofs.Common.{◌≡◌, ℕ, ◌+◌, ◌*◌, ◌<◌, ◌≤◌, List, length, vec_len, IsTrue, Some, None, refl, subst, sym, ap, ◌∙◌, arith}
use Rattle.std.specs.Vec.{vec_capacity}
use Rattle.hd_bytes.specs.Blocks.{block_of}
use Rattle.hd_bytes.specs.Ranges.{with_bytes}
use Rattle.hd_bytes.proofs.BlockLemmas.{length-block}
use Rattle.hd_volume.specs.Edits.{IsTaken}
use Rattle.hd_volume.specs.Images.{ChangesBlock}
use Rattle.hd_volume.specs.Buffers.{Buffered}
use Rattle.hd_volume.specs.Volumes.{VolumeState, block_at, IsFormatted}
use Rattle.hd_volume.specs.Steps.{HasRoom, IsPutIn}
use Rattle.hd_volume.specs.Spaces.{volume_of, room_for}
use Rattle.hd_volume.proofs.FrameLemmas.{HasChanged}
use Rattle.hd_volume.proofs.PutLemmas.{address-block, address-place, changes-both, put-puts, put-space, room-found}
use Rattle.hd_volume.proofs.volume.Volume.put_in.Goals as goal
use Rattle.hd_block.specs.Sizes.{size_at}

pub invariant_of-self-in-None : goal.invariant_of-self-in-None
invariant_of-self-in-None g c =
    let room : ℕ = room_for c.self.inside.spacing c.self.inside.blocks.room (vec_len c.self.inside.space.contents) (vec_capacity c.self.inside.space.contents) in
    let v : VolumeState = volume_of c.self.inside.blocks c.self.inside.sizes.items c.self.inside.spacing room in
    let n : ℕ = c.args.n in
    let bytes : List ℕ = c.args.bytes.now in
    let F : VolumeState → Type 0 = λ u. IsTrue u.is_sound → IsFormatted u in
    let R : VolumeState → Type 0 = λ u. IsTrue u.is_sound → HasRoom u n (length bytes) in
    let W : VolumeState → Type 0 = λ u. (0 < length bytes) × (size_at u.sizes bytes 0 ≡ length bytes) in
    let whole = subst W (sym c.self.view_is) c.requires.whole in
    let size : c.take.new.self.size ≡ v.size = ap (λ (b : Buffered). b.size) c.take.ensures.rest ∙ c.fetch.ensures.size in
    let sound-is : c.take.new.self.is_sound ≡ v.is_sound = ap (λ (b : Buffered). b.is_sound) c.take.ensures.rest ∙ c.in_ok-fetch.ensures.sound in
    record {
      least = rw size c.self.invariant.least;
      most = rw size c.self.invariant.most;
      eighths = rw size c.self.invariant.eighths;
      fits = rw size c.self.invariant.fits;
      small = c.self.invariant.small;
      true_of = λ sound.
          let before : IsTrue v.is_sound = rw (← sound-is) sound in
          let f : IsFormatted v = subst F (sym c.self.view_is) c.requires.formatted before in
          let r : HasRoom v n (length bytes) = subst R (sym c.self.view_is) c.requires.has_room before in
          let now : IsTrue c.fetch.new.self.is_sound = rw c.in_ok-fetch.ensures.sound before in
          let later = r.is_data.later in
          let hand : c.fetch.new.self.hand ≡ n = c.in_ok-fetch.ensures.hand in
          let some : 0 < c.fetch.new.self.hand = omega arith in
          let image : c.fetch.new.self.image ≡ v.image = c.in_ok-fetch.ensures.image before in
          let taken : IsTaken v.sizes (length bytes) (block_at v n) None (block_of v.size c.take.new.self.image n) =
          rw (c.deref.ensures.value, c.fetch.ensures.size, image, hand) at (c.in-None.ensures.block now some) in
          absurd (room-found v n (length bytes) (block_of v.size c.take.new.self.image n) f r whole.0 taken);
    }

pub returns-in-None-clause-placed : goal.returns-in-None-clause-placed
returns-in-None-clause-placed g c sound =
    let room : ℕ = room_for c.self.inside.spacing c.self.inside.blocks.room (vec_len c.self.inside.space.contents) (vec_capacity c.self.inside.space.contents) in
    let v : VolumeState = volume_of c.self.inside.blocks c.self.inside.sizes.items c.self.inside.spacing room in
    let n : ℕ = c.args.n in
    let bytes : List ℕ = c.args.bytes.now in
    let F : VolumeState → Type 0 = λ u. IsTrue u.is_sound → IsFormatted u in
    let R : VolumeState → Type 0 = λ u. IsTrue u.is_sound → HasRoom u n (length bytes) in
    let W : VolumeState → Type 0 = λ u. (0 < length bytes) × (size_at u.sizes bytes 0 ≡ length bytes) in
    let whole = subst W (sym c.self.view_is) c.requires.whole in
    let B : VolumeState → Type 0 = λ u. IsTrue u.is_sound in
    let before : IsTrue v.is_sound = subst B (sym c.self.view_is) sound in
    let f : IsFormatted v = subst F (sym c.self.view_is) c.requires.formatted before in
    let r : HasRoom v n (length bytes) = subst R (sym c.self.view_is) c.requires.has_room before in
    let now : IsTrue c.fetch.new.self.is_sound = rw c.in_ok-fetch.ensures.sound before in
    let later = r.is_data.later in
    let hand : c.fetch.new.self.hand ≡ n = c.in_ok-fetch.ensures.hand in
    let some : 0 < c.fetch.new.self.hand = omega arith in
    let image : c.fetch.new.self.image ≡ v.image = c.in_ok-fetch.ensures.image before in
    let taken : IsTaken v.sizes (length bytes) (block_at v n) None (block_of v.size c.take.new.self.image n) =
    rw (c.deref.ensures.value, c.fetch.ensures.size, image, hand) at (c.in-None.ensures.block now some) in
    absurd (room-found v n (length bytes) (block_of v.size c.take.new.self.image n) f r whole.0 taken)

pub invariant_of-self-in-Some : goal.invariant_of-self-in-Some
invariant_of-self-in-Some g c =
    let room : ℕ = room_for c.self.inside.spacing c.self.inside.blocks.room (vec_len c.self.inside.space.contents) (vec_capacity c.self.inside.space.contents) in
    let v : VolumeState = volume_of c.self.inside.blocks c.self.inside.sizes.items c.self.inside.spacing room in
    let n : ℕ = c.args.n in
    let bytes : List ℕ = c.args.bytes.now in
    let F : VolumeState → Type 0 = λ u. IsTrue u.is_sound → IsFormatted u in
    let R : VolumeState → Type 0 = λ u. IsTrue u.is_sound → HasRoom u n (length bytes) in
    let W : VolumeState → Type 0 = λ u. (0 < length bytes) × (size_at u.sizes bytes 0 ≡ length bytes) in
    let whole = subst W (sym c.self.view_is) c.requires.whole in
    let w : VolumeState = volume_of c.write_hand.new.self c.self.inside.sizes.items c.self.inside.spacing room in
    let size : c.write_hand.new.self.size ≡ v.size = ap (λ (b : Buffered). b.size) c.write_hand.ensures.rest ∙ (ap (λ (b : Buffered). b.size) c.take.ensures.rest ∙ c.fetch.ensures.size) in
    let sound-is : c.write_hand.new.self.is_sound ≡ v.is_sound = ap (λ (b : Buffered). b.is_sound) c.write_hand.ensures.rest ∙ (ap (λ (b : Buffered). b.is_sound) c.take.ensures.rest ∙ c.in_ok-fetch.ensures.sound) in
    record {
      least = rw size c.self.invariant.least;
      most = rw size c.self.invariant.most;
      eighths = rw size c.self.invariant.eighths;
      fits = rw size c.self.invariant.fits;
      small = c.self.invariant.small;
      true_of = λ sound.
          let before : IsTrue v.is_sound = rw (← sound-is) sound in
          let f : IsFormatted v = subst F (sym c.self.view_is) c.requires.formatted before in
          let r : HasRoom v n (length bytes) = subst R (sym c.self.view_is) c.requires.has_room before in
          let now : IsTrue c.fetch.new.self.is_sound = rw c.in_ok-fetch.ensures.sound before in
          let later = r.is_data.later in
          let hand : c.fetch.new.self.hand ≡ n = c.in_ok-fetch.ensures.hand in
          let some : 0 < c.fetch.new.self.hand = omega arith in
          let image : c.fetch.new.self.image ≡ v.image = c.in_ok-fetch.ensures.image before in
          let taken : IsTaken v.sizes (length bytes) (block_at v n) (Some c.in-Some.at) (block_of v.size c.take.new.self.image n) =
          rw (c.deref.ensures.value, c.fetch.ensures.size, image, hand) at (c.in-Some.ensures.block now some) in
          let t-size : c.take.new.self.size ≡ v.size = ap (λ (b : Buffered). b.size) c.take.ensures.rest ∙ c.fetch.ensures.size in
          let t-hand : c.take.new.self.hand ≡ n = ap (λ (b : Buffered). b.hand) c.take.ensures.rest ∙ hand in
          let t-now : IsTrue c.take.new.self.is_sound = rw (ap (λ (b : Buffered). b.is_sound) c.take.ensures.rest) now in
          let t-some : 0 < c.take.new.self.hand = omega arith in
          let first : ChangesBlock v.size n v.image c.take.new.self.image = rw (c.fetch.ensures.size, image, hand) at (c.in-Some.ensures.others now some) in
          let second : ChangesBlock v.size n c.take.new.self.image c.write_hand.new.self.image = rw (t-size, t-hand) at (c.write_hand.ensures.others t-now t-some) in
          let changed : HasChanged v w n = record { same = record { size = size; sizes = refl }; change = changes-both v.size n v.image c.take.new.self.image c.write_hand.new.self.image first second } in
          let new : block_of v.size w.image n ≡ with_bytes (block_of v.size c.take.new.self.image n) c.in-Some.at bytes = rw (t-size, t-hand) at (c.write_hand.ensures.block t-now t-some) in
          let there = r.is_data.there in
          let long = length-block v.size n c.take.new.self.image (let l = first.len in omega arith) in
          let room-is = c.in-Some.ensures.fits in
          let ends : c.in-Some.at + length bytes ≤ length (block_of v.size c.take.new.self.image n) = (let s : c.fetch.new.self.size ≡ v.size = c.fetch.ensures.size in omega arith) in
          let low : c.in-Some.at < v.size = (let s : c.fetch.new.self.size ≡ v.size = c.fetch.ensures.size in let l = whole.0 in omega arith) in
          let least = c.self.invariant.least in
          rw size (put-space v w n (n * v.size + c.in-Some.at) c.in-Some.at bytes (block_of v.size c.take.new.self.image n) f r (omega arith) changed taken new (let w = rw whole.1 at (c.self.invariant.fits.whole bytes 0) in let l = whole.0 in omega arith) whole.1 ends (address-block n v.size c.in-Some.at low) (address-place n v.size c.in-Some.at low) c.self.inside.space (c.self.invariant.true_of before));
    }

pub returns-in-Some-clause-placed : goal.returns-in-Some-clause-placed
returns-in-Some-clause-placed g c =
    let room : ℕ = room_for c.self.inside.spacing c.self.inside.blocks.room (vec_len c.self.inside.space.contents) (vec_capacity c.self.inside.space.contents) in
    let v : VolumeState = volume_of c.self.inside.blocks c.self.inside.sizes.items c.self.inside.spacing room in
    let n : ℕ = c.args.n in
    let bytes : List ℕ = c.args.bytes.now in
    let F : VolumeState → Type 0 = λ u. IsTrue u.is_sound → IsFormatted u in
    let R : VolumeState → Type 0 = λ u. IsTrue u.is_sound → HasRoom u n (length bytes) in
    let W : VolumeState → Type 0 = λ u. (0 < length bytes) × (size_at u.sizes bytes 0 ≡ length bytes) in
    let whole = subst W (sym c.self.view_is) c.requires.whole in
    let room2 : ℕ = room_for c.self.inside.spacing c.write_hand.new.self.room (vec_len c.self.inside.space.contents) (vec_capacity c.self.inside.space.contents) in
    let w : VolumeState = volume_of c.write_hand.new.self c.self.inside.sizes.items c.self.inside.spacing room2 in
    let size : c.write_hand.new.self.size ≡ v.size = ap (λ (b : Buffered). b.size) c.write_hand.ensures.rest ∙ (ap (λ (b : Buffered). b.size) c.take.ensures.rest ∙ c.fetch.ensures.size) in
    let sound-is : c.write_hand.new.self.is_sound ≡ v.is_sound = ap (λ (b : Buffered). b.is_sound) c.write_hand.ensures.rest ∙ (ap (λ (b : Buffered). b.is_sound) c.take.ensures.rest ∙ c.in_ok-fetch.ensures.sound) in
    let P : VolumeState → Type 0 = λ u. IsTrue u.is_sound → IsPutIn u n (n * c.block_size-size.result + c.from.result) bytes w in
    subst P c.self.view_is
    (λ before.
    let f : IsFormatted v = subst F (sym c.self.view_is) c.requires.formatted before in
    let r : HasRoom v n (length bytes) = subst R (sym c.self.view_is) c.requires.has_room before in
    let now : IsTrue c.fetch.new.self.is_sound = rw c.in_ok-fetch.ensures.sound before in
    let later = r.is_data.later in
    let hand : c.fetch.new.self.hand ≡ n = c.in_ok-fetch.ensures.hand in
    let some : 0 < c.fetch.new.self.hand = omega arith in
    let image : c.fetch.new.self.image ≡ v.image = c.in_ok-fetch.ensures.image before in
    let taken : IsTaken v.sizes (length bytes) (block_at v n) (Some c.in-Some.at) (block_of v.size c.take.new.self.image n) =
    rw (c.deref.ensures.value, c.fetch.ensures.size, image, hand) at (c.in-Some.ensures.block now some) in
    let t-size : c.take.new.self.size ≡ v.size = ap (λ (b : Buffered). b.size) c.take.ensures.rest ∙ c.fetch.ensures.size in
    let t-hand : c.take.new.self.hand ≡ n = ap (λ (b : Buffered). b.hand) c.take.ensures.rest ∙ hand in
    let t-now : IsTrue c.take.new.self.is_sound = rw (ap (λ (b : Buffered). b.is_sound) c.take.ensures.rest) now in
    let t-some : 0 < c.take.new.self.hand = omega arith in
    let first : ChangesBlock v.size n v.image c.take.new.self.image = rw (c.fetch.ensures.size, image, hand) at (c.in-Some.ensures.others now some) in
    let second : ChangesBlock v.size n c.take.new.self.image c.write_hand.new.self.image = rw (t-size, t-hand) at (c.write_hand.ensures.others t-now t-some) in
    let changed : HasChanged v w n = record { same = record { size = size; sizes = refl }; change = changes-both v.size n v.image c.take.new.self.image c.write_hand.new.self.image first second } in
    let new : block_of v.size w.image n ≡ with_bytes (block_of v.size c.take.new.self.image n) c.in-Some.at bytes = rw (t-size, t-hand) at (c.write_hand.ensures.block t-now t-some) in
    let there = r.is_data.there in
    let long = length-block v.size n c.take.new.self.image (let l = first.len in omega arith) in
    let room-is = c.in-Some.ensures.fits in
    let ends : c.in-Some.at + length bytes ≤ length (block_of v.size c.take.new.self.image n) = (let s : c.fetch.new.self.size ≡ v.size = c.fetch.ensures.size in omega arith) in
    let low : c.in-Some.at < v.size = (let s : c.fetch.new.self.size ≡ v.size = c.fetch.ensures.size in let l = whole.0 in omega arith) in
    let least = c.self.invariant.least in
    let A : ℕ → Type 0 = λ a. IsPutIn v n a bytes w in
    let address : n * v.size + c.in-Some.at ≡ n * c.block_size-size.result + c.from.result = rw (c.block_size-size.ensures.value, c.from.ensures) refl in
    subst A address (put-puts v w n (n * v.size + c.in-Some.at) c.in-Some.at bytes (block_of v.size c.take.new.self.image n) f r (omega arith) changed taken new (let w = rw whole.1 at (c.self.invariant.fits.whole bytes 0) in let l = whole.0 in omega arith) whole.1 ends (address-block n v.size c.in-Some.at low) (address-place n v.size c.in-Some.at low)))
