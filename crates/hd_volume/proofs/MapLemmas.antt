-- A volume as a map.
use Rattle.std.proofs.Common.{◌≡◌, ◌≢◌, inl, inr, ℕ, ◌+◌, ◌-◌, ◌*◌, ◌/◌, ◌%◌, ◌≤◌, cond, ◌==◌, min, List, [], length, Option, Some, None, Ok, IsTrue, refl, sym, ap, ◌∙◌, arith, ne_eqb, subst}
use Rattle.std.proofs.lemmas.Bool.{cases_lt, cases_eq, eq-eqb}
use Rattle.std.proofs.lemmas.Grind.{common_steps}
use Rattle.std.proofs.lemmas.Nat.{row_fits}
use Rattle.std.proofs.Math.Nat.{min-eq_left, mul-le-mul_right}
use Rattle.hd_bytes.specs.Ranges.{bytes_at}
use Rattle.hd_bytes.specs.Blocks.{block_of, HasBlock}
use Rattle.hd_volume.specs.Images.{KeepsFirst}
use Rattle.hd_volume.specs.Buffers.{Buffered, IsFetch}
use Rattle.hd_volume.specs.Headers.{header_of}
use Rattle.hd_volume.specs.Volumes.{VolumeState, block_at, kind_of, IsKind, IsFormatted}
use Rattle.hd_volume.specs.Records.{segment_in, find}
use Rattle.hd_volume.specs.Spaces.{volume_of}
use Rattle.hd_volume.specs.Calls.{IsRead, HasSegment}
use Rattle.hd_volume.proofs.ExtentLemmas.{used-is, segment-some}
use Rattle.hd_dbd.specs.declared.facts.SegmentSize.{SegmentSize}
use Rattle.hd_dbd.specs.declared.hierarchy.FreeSpace.{FreeSpace}
use Rattle.hd_volume.specs.Spacing.{HasLeft}
use Rattle.hd_block.specs.Sizes.{size_at}

-- ---- blocks of a formatted volume

-- behind the end there are no bytes
pub past-end : (size n : ℕ) (image : List ℕ) → length image ≤ n * size → block_of size image n ≡ []
past-end size n image h = grind (arith, common_steps)

-- in an image of whole blocks, a block with a kind is one of the image's
pub kind-there : (size n count kind : ℕ) (image : List ℕ) → length image ≡ count * size → kind ≢ 0 → kind_of (block_of size image n) ≡ kind → HasBlock size image n
kind-there size n count kind image len some is =
    elim (cases_lt n count) [
      | inl l ↦ (let fits : n * size + size ≤ count * size = row_fits n size count size l (omega arith) in omega arith)
      | inr l ↦
          let past : count * size ≤ n * size = mul-le-mul_right size (let h : count ≤ n = omega arith in h) in
          let none : block_of size image n ≡ [] = past-end size n image (omega arith) in
          let zero_kind : kind_of (block_of size image n) ≡ 0 = ap kind_of none in absurd (some (sym is ∙ zero_kind))
    ]

-- ---- the segment at an address

-- what a segment that is found says
pub record IsFound (v : VolumeState) (address : ℕ) (s : List ℕ) : Type 0 where
  pub later : address / v.size ≢ 0
  pub kind : kind_of (block_at v (address / v.size)) ≡ 1
  pub segment : segment_in v.sizes (block_at v (address / v.size)) (address % v.size) ≡ Some s

found-in : {A : Type 0} (n k : ℕ) (o : Option A) (s : A) → cond (n == 0) None (cond (k == 1) o None) ≡ Some s → (n ≢ 0) × (k ≡ 1) × (o ≡ Some s)
found-in {A} n k o s e =
    elim (cases_eq n 0) [
      | inl z ↦ (let none : ◌≡◌ {A = Option A} None (Some s) = rw (eq-eqb n 0 z) at e in absurd (cc))
      | inr some ↦ (let at : cond (k == 1) o None ≡ Some s = rw (ne_eqb n 0 some) at e in
          elim (cases_eq k 1) [
            | inl one ↦ (some, one, rw (eq-eqb k 1 one) at at)
            | inr other ↦ (let none : ◌≡◌ {A = Option A} None (Some s) = rw (ne_eqb k 1 other) at at in absurd (cc))
          ])
    ]

pub find-some : (v : VolumeState) (address : ℕ) (s : List ℕ) → find v address ≡ Some s → IsFound v address s
find-some v address s e =
    let f = found-in (address / v.size) (kind_of (block_at v (address / v.size))) (segment_in v.sizes (block_at v (address / v.size)) (address % v.size)) s e in
    record { later = f.0; kind = f.1; segment = f.2 }

-- in a data block the map has the segments of the block
pub find-in : (v : VolumeState) (address : ℕ) → address / v.size ≢ 0 → kind_of (block_at v (address / v.size)) ≡ 1
    → find v address ≡ segment_in v.sizes (block_at v (address / v.size)) (address % v.size)
find-in v address later kind = rw (ne_eqb (address / v.size) 0 later, eq-eqb (kind_of (block_at v (address / v.size))) 1 kind) refl

-- the block of a segment is a data block
pub find-there : (v : VolumeState) (address n : ℕ) → IsFormatted v → HasSegment v address n → IsKind v 1 (address / v.size)
find-there v address n f h =
    let k = find-some v address h.bytes h.is in
    let some : address / v.size ≢ 0 = k.later in
    record {
      there = kind-there v.size (address / v.size) (header_of v.image).count 1 v.image f.header.whole (λ e. omega arith) k.kind;
      later = omega arith;
      kind_is = k.kind;
    }

-- what is read of a block from a segment's place on, as far as its code says, is the segment
pub segment-read : (v : VolumeState) (address n at end : ℕ) (b : List ℕ) → IsFormatted v → HasSegment v address n → at ≡ address % v.size → b ≡ block_at v (address / v.size)
    → end ≡ min (at + size_at v.sizes b at) (length b) → find v address ≡ Some (bytes_at b at (end - at))
segment-read v address n at end b f h at_is b_is end_is =
    let k = find-some v address h.bytes h.is in
    let x = f.divided (address / v.size) (find-there v address n f h) in
    let block : List ℕ = block_at v (address / v.size) in
    let q : ℕ = address % v.size in
    let s = segment-some v.sizes block x.extents x.divides x.whole q h.bytes k.segment in
    let u = used-is v.sizes block 8 _ x.extents q (length h.bytes) x.divides s.0 in
    let code : size_at v.sizes b at ≡ length h.bytes = rw (at_is, b_is) u.size in
    let within : at + length h.bytes ≤ length b = rw (at_is, b_is) u.within in
    let least : min (at + size_at v.sizes b at) (length b) ≡ at + length h.bytes = rw code (min-eq_left within) in
    h.is ∙ ap (λ (t : List ℕ). Some t) (s.1 ∙ (let e : bytes_at block q (length h.bytes) ≡ bytes_at b at (end - at) = rw (at_is, b_is) (ap (λ (m : ℕ). bytes_at block q m) (let l : length h.bytes ≡ end - q = omega arith in l)) in e))

-- ---- a call that reads

-- one image leaves the same space
pub space-same : (v w : VolumeState) → w.size ≡ v.size → w.sizes ≡ v.sizes → w.image ≡ v.image → w.spacing ≡ v.spacing → HasLeft v → HasLeft w
space-same v w size sizes image spacing h more =
    let few : (header_of v.image).count + 2 ≤ (header_of v.image).largest = rw image at more in
    let s = h few in
    record {
      blocks = λ n there later out.
          let k = s.blocks n (rw (size, image) at there) later (rw spacing at out) in
          record { there = there; later = later; kind_is = rw (size, image) k.kind_is };
      bytes = λ n k.
          let old : IsKind v 1 n = record { there = rw (size, image) at k.there; later = k.later; kind_is = rw (size, image) at k.kind_is } in
          rw (size, sizes, image, spacing) (s.bytes n old);
    }

-- blocks of which only one was brought to hand
pub record IsBrought (old new : Buffered) : Type 0 where
  pub sound : new.is_sound ≡ old.is_sound
  pub failures : new.failures ≡ old.failures
  pub committed : new.committed ≡ old.committed
  pub size : new.size ≡ old.size
  pub room : new.room ≡ old.room
  pub image : IsTrue old.is_sound → new.image ≡ old.image
  pub stands : IsTrue old.is_sound → old.stored ≡ old.image → new.stored ≡ old.image
  pub first : IsTrue old.is_sound → KeepsFirst old.size old.stored new.stored

pub is-read : {T : Type 0} (old new : Buffered) (sizes : List SegmentSize) (spacing : FreeSpace) (room room' : ℕ) (x : T) → IsBrought old new → room' ≡ room
    → IsRead {T = T} (volume_of old sizes spacing room) (Ok x) (volume_of new sizes spacing room')
is-read old new sizes spacing room room' x h same =
    let before = λ (sound : IsTrue new.is_sound). (let s : IsTrue old.is_sound = rw (← h.sound) sound in s) in
    record {
      call = record {
        counts = h.failures;
        sound = h.sound;
        committed = h.committed;
        size = h.size;
        sizes = refl;
        first = λ sound. h.first (before sound);
        plain = λ p. p;
        space = λ s l. record { left = λ sound is. space-same (volume_of old sizes spacing room) (volume_of new sizes spacing room') h.size refl (h.image (before sound)) refl (l.left (before sound) is) };
      };
      image = λ sound. h.image (before sound);
      stands = λ sound stood. h.stands (before sound) stood ∙ sym (h.image (before sound));
      room = same;
    }

-- the same as a caller sees it
pub is-read-seen : {T : Type 0} {x : T} (seen : VolumeState) (old new : Buffered) (sizes : List SegmentSize) (spacing : FreeSpace) (room room' : ℕ) → volume_of old sizes spacing room ≡ seen → IsBrought old new → room' ≡ room
    → IsRead {T = T} seen (Ok x) (volume_of new sizes spacing room')
is-read-seen {T} {x} seen old new sizes spacing room room' view h same =
    let P : VolumeState → Type 0 = λ v. IsRead {T = T} v (Ok x) (volume_of new sizes spacing room') in subst P view (is-read old new sizes spacing room room' x h same)

-- the same of calls that seek
pub fetched-read : {T U : Type 0} (seen : VolumeState) (old new : Buffered) (sizes : List SegmentSize) (spacing : FreeSpace) (room room' : ℕ) (x : T) (y : U) → volume_of old sizes spacing room ≡ seen
    → IsFetch {T = T} old (Ok x) new → room' ≡ room → IsRead {T = U} seen (Ok y) (volume_of new sizes spacing room')
fetched-read {T} {U} seen old new sizes spacing room room' x y view f same =
    let after = λ (sound : IsTrue old.is_sound). (let s : IsTrue new.is_sound = rw f.sound sound in s) in
    is-read-seen seen old new sizes spacing room room' view (record {
      sound = f.sound;
      failures = f.counts;
      committed = f.committed;
      size = f.size;
      room = f.room;
      image = λ sound. f.image (after sound);
      stands = λ sound stood. f.stands (after sound) stood ∙ f.image (after sound);
      first = λ sound. f.first (after sound);
    }) same
