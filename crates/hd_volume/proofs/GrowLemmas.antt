-- A volume that grows by a free block, and a header of which one number is changed.
use Rattle.std.proofs.Common.{◌≡◌, ◌≢◌, ◌⊎◌, inl, inr, ℕ, zero, suc, ◌+◌, ◌-◌, ◌*◌, ◌/◌, ◌<◌, ◌≤◌, not, ◌&&◌, ◌==◌, min, List, [], ◌∷◌, ◌++◌, length, slice_index, slice_index_or, vec_len, None, refl, sym, ap, ◌∙◌, arith, ne_eqb, lit≤, subst}
use Rattle.std.proofs.lemmas.Bool.{cases_lt, cases_eq, eq-eqb}
use Rattle.std.proofs.lemmas.Nat.{row_fits}
use Rattle.std.proofs.Math.Nat.{mul-div_cancel, mul-le-mul_right}
use Rattle.byteorder.specs.Endian.{big_bytes}
use Rattle.hd_bytes.specs.Numbers.{number_at}
use Rattle.hd_bytes.specs.Ranges.{bytes_at, with_bytes}
use Rattle.hd_bytes.specs.Blocks.{block_of, grown, HasBlock}
use Rattle.hd_bytes.proofs.BlockLemmas.{byte-in-block, agree-bytes_at, length-block, length-grown, block-grown}
use Rattle.hd_bytes.proofs.NumberLemmas.{number-same, number-with, changes-with}
use Rattle.hd_block.specs.Walk.{parts_in}
use Rattle.hd_volume.specs.declared.space.Space.{Space}
use Rattle.hd_volume.specs.declared.space.Content.{Content}
use Rattle.hd_volume.specs.Images.{ChangesBlock}
use Rattle.hd_volume.specs.Headers.{Header, header_of, HasHeader}
use Rattle.hd_volume.specs.Volumes.{VolumeState, block_at, kind_of, IsKind, HasExtents, IsFormatted}
use Rattle.hd_volume.specs.Records.{find}
use Rattle.hd_volume.specs.Rooms.{spare, is_free, one_if, free_below, largest_hole}
use Rattle.hd_volume.specs.Spaces.{blocks_in, content_at, IsContent, IsSpaceOf}
use Rattle.hd_volume.specs.Calls.{KeepsHoles, KeepsSegments, MayGrow}
use Rattle.hd_volume.specs.Steps as step
use Rattle.hd_volume.proofs.MapLemmas.{past-end}
use Rattle.hd_volume.proofs.EditLemmas.{put-byte}
use Rattle.hd_volume.specs.Calls as call
use Rattle.hd_volume.proofs.FrameLemmas.{AreSame, HasChanged, block-seen, find-frame, free-same, other-blocks, other-segments, kind-back, kind-on}
use Rattle.hd_volume.proofs.SpaceLemmas.{number-in-first, free-more, one-most, content-before, content-last}
use Rattle.hd_dbd.specs.declared.facts.SegmentSize.{SegmentSize}

-- ---- one number of the header

-- Block 0 of b is that of a with a number of four bytes at p.
pub record HasNumber (size p x : ℕ) (a b : List ℕ) : Type 0 where
  pub least : 44 ≤ size
  pub before : HasBlock size a 0
  pub after : HasBlock size b 0
  pub fits : p + 4 ≤ size
  pub small : x < 4294967296
  pub block : block_of size b 0 ≡ with_bytes (block_of size a 0) p (big_bytes 4 x)

module _ {size p x : ℕ} {a b : List ℕ} (h : HasNumber size p x a b) where
  byte-same : (j : ℕ) → j < size → (j < p) ⊎ (p + 4 ≤ j) → slice_index a j ≡ slice_index b j
  byte-same j low where-is =
      let first = length-block size 0 a h.before in
      let fits = h.fits in
      let c = changes-with (block_of size a 0) (big_bytes 4 x) p (omega arith) in
      let same : slice_index (with_bytes (block_of size a 0) p (big_bytes 4 x)) j ≡ slice_index (block_of size a 0) j = elim where-is [ inl l ↦ c.below j l | inr r ↦ c.above j r ] in
      ap (slice_index a) (let z : j ≡ 0 * size + j = omega arith in z) ∙ sym (byte-in-block size 0 j a h.before low) ∙ sym same ∙ ap (λ (t : List ℕ). slice_index t j) (sym h.block)
      ∙ byte-in-block size 0 j b h.after low ∙ ap (slice_index b) (let z : 0 * size + j ≡ j = omega arith in z)

  pub number-kept : (k q : ℕ) → q + k ≤ size → (q + k ≤ p) ⊎ (p + 4 ≤ q) → number_at k b q ≡ number_at k a q
  number-kept k q fits apart = sym (number-same k q a b (λ j low high. byte-same j (omega arith) (elim apart [ inl l ↦ inl (omega arith) | inr r ↦ inr (omega arith) ])))

  pub bytes-kept : (k q : ℕ) → q + k ≤ size → (q + k ≤ p) ⊎ (p + 4 ≤ q) → bytes_at b q k ≡ bytes_at a q k
  bytes-kept k q fits apart =
      let one = h.before in let two = h.after in
      sym (agree-bytes_at q k a b (omega arith) (omega arith) (λ j low high. byte-same j (omega arith) (elim apart [ inl l ↦ inl (omega arith) | inr r ↦ inr (omega arith) ])))

  pub number-new : number_at 4 b p ≡ x
  number-new =
      let first = length-block size 0 a h.before in
      let fits = h.fits in
      sym (number-in-first size 4 p b h.after h.fits) ∙ ap (λ (t : List ℕ). number_at 4 t p) h.block
      ∙ number-with (block_of size a 0) 4 x p (omega arith) h.small

-- the header with another count
pub header-count : (size x : ℕ) (a b : List ℕ) → HasNumber size 12 x a b → header_of b ≡ record (header_of a) { count = x }
header-count size x a b h = rw (bytes-kept h 8 0 (omega (arith, h.least)) (inl (lit≤ tt)), number-kept h 2 8 (omega (arith, h.least)) (inl (lit≤ tt)), number-kept h 2 10 (omega (arith, h.least)) (inl (lit≤ tt)), number-new h, number-kept h 4 16 (omega (arith, h.least)) (inr (lit≤ tt)), bytes-kept h 8 20 (omega (arith, h.least)) (inr (lit≤ tt)), number-kept h 4 28 (omega (arith, h.least)) (inr (lit≤ tt)), number-kept h 4 32 (omega (arith, h.least)) (inr (lit≤ tt)), number-kept h 4 36 (omega (arith, h.least)) (inr (lit≤ tt)), number-kept h 4 40 (omega (arith, h.least)) (inr (lit≤ tt))) refl

-- the header with another first root
pub header-first_root : (size x : ℕ) (a b : List ℕ) → HasNumber size 28 x a b → header_of b ≡ record (header_of a) { first_root = x }
header-first_root size x a b h = rw (bytes-kept h 8 0 (omega (arith, h.least)) (inl (lit≤ tt)), number-kept h 2 8 (omega (arith, h.least)) (inl (lit≤ tt)), number-kept h 2 10 (omega (arith, h.least)) (inl (lit≤ tt)), number-kept h 4 12 (omega (arith, h.least)) (inl (lit≤ tt)), number-kept h 4 16 (omega (arith, h.least)) (inl (lit≤ tt)), bytes-kept h 8 20 (omega (arith, h.least)) (inl (lit≤ tt)), number-new h, number-kept h 4 32 (omega (arith, h.least)) (inr (lit≤ tt)), number-kept h 4 36 (omega (arith, h.least)) (inr (lit≤ tt)), number-kept h 4 40 (omega (arith, h.least)) (inr (lit≤ tt))) refl

-- the header with another last root
pub header-last_root : (size x : ℕ) (a b : List ℕ) → HasNumber size 32 x a b → header_of b ≡ record (header_of a) { last_root = x }
header-last_root size x a b h = rw (bytes-kept h 8 0 (omega (arith, h.least)) (inl (lit≤ tt)), number-kept h 2 8 (omega (arith, h.least)) (inl (lit≤ tt)), number-kept h 2 10 (omega (arith, h.least)) (inl (lit≤ tt)), number-kept h 4 12 (omega (arith, h.least)) (inl (lit≤ tt)), number-kept h 4 16 (omega (arith, h.least)) (inl (lit≤ tt)), bytes-kept h 8 20 (omega (arith, h.least)) (inl (lit≤ tt)), number-kept h 4 28 (omega (arith, h.least)) (inl (lit≤ tt)), number-new h, number-kept h 4 36 (omega (arith, h.least)) (inr (lit≤ tt)), number-kept h 4 40 (omega (arith, h.least)) (inr (lit≤ tt))) refl

-- the header with another top
pub header-top : (size x : ℕ) (a b : List ℕ) → HasNumber size 36 x a b → header_of b ≡ record (header_of a) { top = x }
header-top size x a b h = rw (bytes-kept h 8 0 (omega (arith, h.least)) (inl (lit≤ tt)), number-kept h 2 8 (omega (arith, h.least)) (inl (lit≤ tt)), number-kept h 2 10 (omega (arith, h.least)) (inl (lit≤ tt)), number-kept h 4 12 (omega (arith, h.least)) (inl (lit≤ tt)), number-kept h 4 16 (omega (arith, h.least)) (inl (lit≤ tt)), bytes-kept h 8 20 (omega (arith, h.least)) (inl (lit≤ tt)), number-kept h 4 28 (omega (arith, h.least)) (inl (lit≤ tt)), number-kept h 4 32 (omega (arith, h.least)) (inl (lit≤ tt)), number-new h, number-kept h 4 40 (omega (arith, h.least)) (inr (lit≤ tt))) refl

-- the header with another height
pub header-height : (size x : ℕ) (a b : List ℕ) → HasNumber size 40 x a b → header_of b ≡ record (header_of a) { height = x }
header-height size x a b h = rw (bytes-kept h 8 0 (omega (arith, h.least)) (inl (lit≤ tt)), number-kept h 2 8 (omega (arith, h.least)) (inl (lit≤ tt)), number-kept h 2 10 (omega (arith, h.least)) (inl (lit≤ tt)), number-kept h 4 12 (omega (arith, h.least)) (inl (lit≤ tt)), number-kept h 4 16 (omega (arith, h.least)) (inl (lit≤ tt)), bytes-kept h 8 20 (omega (arith, h.least)) (inl (lit≤ tt)), number-kept h 4 28 (omega (arith, h.least)) (inl (lit≤ tt)), number-kept h 4 32 (omega (arith, h.least)) (inl (lit≤ tt)), number-kept h 4 36 (omega (arith, h.least)) (inl (lit≤ tt)), number-new h) refl

-- ---- a block more

-- The volume has one block more behind the last, which is free; block 0 has the new count.
pub record IsGrown (v w : VolumeState) : Type 0 where
  pub same : AreSame v w
  pub len : length w.image ≡ length v.image + v.size
  pub others : (m : ℕ) → HasBlock v.size v.image m → m ≢ 0 → block_of v.size w.image m ≡ block_at v m
  pub kind : kind_of (block_of v.size w.image (header_of v.image).count) ≡ 3
  pub header : header_of w.image ≡ record (header_of v.image) { count = (header_of v.image).count + 1 }
  pub below : (header_of v.image).count < (header_of v.image).largest

module _ {v w : VolumeState} (g : IsGrown v w) (f : IsFormatted v) (positive : 0 < v.size) where
  count : ℕ
  count = (header_of v.image).count

  counts : (header_of w.image).count ≡ (header_of v.image).count + 1
  counts = ap (λ (h : Header). h.count) g.header

  largests : (header_of w.image).largest ≡ (header_of v.image).largest
  largests = ap (λ (h : Header). h.largest) g.header

  there-below : (m : ℕ) → m < (header_of v.image).count → HasBlock v.size v.image m
  there-below m low =
      let fits : m * v.size + v.size ≤ (header_of v.image).count * v.size = row_fits m v.size (header_of v.image).count v.size low (omega arith) in
      let whole = f.header.whole in omega arith

  some-count : 0 < (header_of v.image).count
  some-count = elim (cases_eq (header_of v.image).count 0) [
    | inl z ↦ (let whole = f.header.whole in let first = f.header.first in let none : (header_of v.image).count * v.size ≡ 0 = rw z (let e : 0 * v.size ≡ 0 = omega arith in e) in absurd (omega arith))
    | inr some ↦ omega arith
  ]

  -- a block behind the last is none, before and after
  past-old : (m : ℕ) → (header_of v.image).count ≤ m → block_at v m ≡ []
  past-old m high =
      let past : (header_of v.image).count * v.size ≤ m * v.size = mul-le-mul_right v.size high in
      let whole = f.header.whole in past-end v.size m v.image (omega arith)

  past-new : (m : ℕ) → (header_of v.image).count < m → block_of v.size w.image m ≡ []
  past-new m high =
      let fits : (header_of v.image).count * v.size + v.size ≤ m * v.size = row_fits (header_of v.image).count v.size m v.size high (omega arith) in
      let whole = f.header.whole in let len = g.len in past-end v.size m w.image (omega arith)

  -- every block but block 0 and the new one
  pub grown-block : (m : ℕ) → m ≢ 0 → m ≢ (header_of v.image).count → block_of v.size w.image m ≡ block_at v m
  grown-block m some other =
      elim (cases_lt m (header_of v.image).count) [
        | inl l ↦ g.others m (there-below m l) some
        | inr h ↦ past-new m (omega arith) ∙ sym (past-old m h)
      ]

  grown-header : HasHeader w.size w.image
  grown-header =
      let len = g.len in
      let first = f.header.first in
      let whole = f.header.whole in
      let below = g.below in
      record {
        first = rw g.same.size (omega arith);
        mark = ap (λ (h : Header). h.mark) g.header ∙ f.header.mark;
        whole = (let e : length w.image ≡ ((header_of v.image).count + 1) * v.size = omega arith in e) ∙ (let e : ((header_of v.image).count + 1) * v.size ≡ (header_of w.image).count * w.size = rw (counts, g.same.size) refl in e);
        within = rw (counts, largests) (omega arith);
        bound = rw largests f.header.bound;
      }

  grown-there : HasBlock v.size w.image (header_of v.image).count
  grown-there = let len = g.len in let whole = f.header.whole in omega arith

  grown-kind : (k m : ℕ) → IsKind w k m → k ≢ 3 → IsKind v k m
  grown-kind k m h other =
      let some : m ≢ 0 = (let l = h.later in λ e. omega arith) in
      let seen : kind_of (block_of v.size w.image m) ≡ k = ap kind_of (sym (block-seen g.same m)) ∙ h.kind_is in
      let apart : m ≢ (header_of v.image).count = λ e. other (sym seen ∙ ap (λ (i : ℕ). kind_of (block_of v.size w.image i)) e ∙ g.kind) in
      let there : m * v.size + v.size ≤ length w.image = rw g.same.size at h.there in
      elim (cases_lt m (header_of v.image).count) [
        | inl l ↦ record { there = there-below m l; later = h.later; kind_is = ap kind_of (sym (grown-block m some apart)) ∙ seen }
        | inr high ↦
            (let fits : (header_of v.image).count * v.size + v.size ≤ m * v.size = row_fits (header_of v.image).count v.size m v.size (omega arith) (omega arith) in
            let whole = f.header.whole in let len = g.len in absurd (omega arith))
      ]

  grown-segments : KeepsSegments v w
  grown-segments a =
      elim (cases_eq (a / v.size) 0) [
        | inl z ↦ (let e : find w a ≡ find v a = rw (g.same.size, g.same.sizes, eq-eqb (a / v.size) 0 z) refl in e)
        | inr some ↦ elim (cases_eq (a / v.size) (header_of v.image).count) [
          | inr other ↦ find-frame g.same a (grown-block (a / v.size) some other)
          | inl here ↦
              (let old : kind_of (block_at v (a / v.size)) ≡ 0 = ap kind_of (past-old (a / v.size) (omega arith)) in
              let new : kind_of (block_of v.size w.image (a / v.size)) ≡ 3 = ap (λ (i : ℕ). kind_of (block_of v.size w.image i)) here ∙ g.kind in
              let before : find v a ≡ None = rw (ne_eqb (a / v.size) 0 some, ne_eqb (kind_of (block_at v (a / v.size))) 1 (λ e. omega arith)) refl in
              let after : find w a ≡ None = rw (g.same.size, g.same.sizes, ne_eqb (a / v.size) 0 some, ne_eqb (kind_of (block_of v.size w.image (a / v.size))) 1 (λ e. omega arith)) refl in
              after ∙ sym before)
        ]
      ]

  grown-frees : (N : ℕ) → N ≤ (header_of v.image).count → free_below v.size w.image N ≡ free_below v.size v.image N
  grown-frees zero low = refl
  grown-frees (suc N) low =
      let rest = grown-frees N (omega arith) in
      let one : is_free v.size w.image N ≡ is_free v.size v.image N = elim (cases_eq N 0) [
        | inl z ↦ (let e : is_free v.size w.image N ≡ is_free v.size v.image N = rw (eq-eqb N 0 z) refl in e)
        | inr some ↦ ap (λ (b : List ℕ). not (N == 0) && kind_of b == 3) (grown-block N some (λ e. omega arith))
      ] in
      rw (rest, one) refl

  grown-free : free_below v.size w.image ((header_of v.image).count + 1) ≡ free_below v.size v.image (header_of v.image).count + 1
  grown-free =
      let some = some-count in
      let last : one_if (is_free v.size w.image (header_of v.image).count) ≡ 1 = rw (ne_eqb (header_of v.image).count 0 (λ e. omega arith), eq-eqb (kind_of (block_of v.size w.image (header_of v.image).count)) 3 g.kind) refl in
      let rest = grown-frees (header_of v.image).count (omega arith) in
      let more = free-more v.size w.image (header_of v.image).count in
      omega arith

  pub grown-has : step.HasFree v (header_of v.image).count w
  grown-has =
      let some = some-count in
      let below = g.below in
      record {
        formatted = record {
          header = grown-header;
          divided = λ m k.
              let old = grown-kind 1 m k (λ e. omega arith) in
              let later : m ≢ 0 = (let l = k.later in λ e. omega arith) in
              let apart : m ≢ (header_of v.image).count = λ e. (let t = old.kind_is in let none : kind_of (block_at v m) ≡ 0 = ap kind_of (past-old m (omega arith)) in omega arith) in
              let P : List ℕ → Type 0 = λ b. HasExtents w.sizes b in
              let Q : List SegmentSize → Type 0 = λ z. HasExtents z (block_of v.size w.image m) in
              let R : List ℕ → Type 0 = λ b. HasExtents v.sizes b in
              subst P (sym (block-seen g.same m)) (subst Q (sym g.same.sizes) (subst R (sym (grown-block m later apart)) (f.divided m old)));
        };
        is = record { there = rw g.same.size grown-there; later = some; kind_is = ap kind_of (block-seen g.same (header_of v.image).count) ∙ g.kind };
        was = inr (omega arith);
        others = λ m there later. block-seen g.same m ∙ g.others m there (λ e. omega arith);
        grows = record { count = inr (counts, omega arith, omega arith); passed = λ m high low other. (let c = counts in absurd (omega arith)); header = g.header ∙ (let e : record (header_of v.image) { count = (header_of v.image).count + 1 } ≡ record (header_of v.image) { count = (header_of w.image).count } = rw counts refl in e) };
        segments = grown-segments;
        spares =
            let free = grown-free in
            let all : spare w ≡ (header_of v.image).largest - ((header_of v.image).count + 1) + free_below v.size w.image ((header_of v.image).count + 1) = rw (counts, largests, g.same.size) refl in
            omega arith;
        holes = λ k h.
            let m : ℕ = h.block in
            let later : m ≢ 0 = (let l = h.is_data.later in λ e. omega arith) in
            let apart : m ≢ (header_of v.image).count = λ e. (let t = h.is_data.kind_is in let none : kind_of (block_at v m) ≡ 0 = ap kind_of (past-old m (omega arith)) in omega arith) in
            let same = grown-block m later apart in
            let P : List ℕ → Type 0 = λ b. k ≤ largest_hole (parts_in w.sizes b) in
            let Q : List SegmentSize → Type 0 = λ z. k ≤ largest_hole (parts_in z (block_of v.size w.image m)) in
            let R : List ℕ → Type 0 = λ b. k ≤ largest_hole (parts_in v.sizes b) in
            record {
              block = m;
              is_data = record {
                there = (let t = h.is_data.there in let len = g.len in rw g.same.size (omega arith));
                later = h.is_data.later;
                kind_is = ap kind_of (block-seen g.same m) ∙ ap kind_of same ∙ h.is_data.kind_is;
              };
              large = subst P (sym (block-seen g.same m)) (subst Q (sym g.same.sizes) (subst R (sym same) h.large));
            };
      }

-- what is kept stays true with the content of the new block
pub grown-space : {v w : VolumeState} (g : IsGrown v w) (f : IsFormatted v) (positive : 0 < v.size) (space new : Space) → IsSpaceOf v.size v.sizes v.image space
    → new.contents.items ≡ space.contents.items ++ record { kind = 3; hole = 0 } ∷ [] → vec_len new.contents ≡ vec_len space.contents + 1 → new.lowest ≡ space.lowest
    → new.free ≡ space.free + 1 → new.lowest_free ≤ space.lowest_free → new.lowest_free ≤ vec_len space.contents → IsSpaceOf v.size v.sizes w.image new
grown-space {v} {w} g f positive space new h contents len lowest free-is low-free lower =
    let n : ℕ = (header_of v.image).count in
    let x : Content = record { kind = 3; hole = 0 } in
    let d : Content = record { kind = 0; hole = 0 } in
    let below = g.below in
    let bound = f.header.bound in
    let quotient : length v.image / v.size ≡ n = rw f.header.whole (mul-div_cancel n positive) in
    let long : length w.image ≡ (n + 1) * v.size = (let l = g.len in let t = f.header.whole in omega arith) in
    let quotient' : length w.image / v.size ≡ n + 1 = rw long (mul-div_cancel (n + 1) positive) in
    let old-blocks : blocks_in v.size v.image ≡ n = omega arith in
    let new-blocks : blocks_in v.size w.image ≡ n + 1 = omega arith in
    let old-len : length space.contents.items ≡ n = sym space.contents.ok.0 ∙ h.len ∙ old-blocks in
    let before = λ (m : ℕ) (l : m < n). (let e : content_at new m ≡ content_at space m = ap (λ (xs : List Content). slice_index_or xs m d) contents ∙ content-before space.contents.items x d m (omega arith) in e) in
    record {
      len = omega (arith, h.len);
      contents = λ m some under. elim (cases_lt m n) [
        | inl l ↦ (let old = h.contents m some (omega arith) in
            let R : Content → Type 0 = λ y. IsContent v.sizes (block_of v.size w.image m) y in
            let S : List ℕ → Type 0 = λ b. IsContent v.sizes b (content_at space m) in
            subst R (sym (before m l)) (subst S (sym (grown-block g f positive m (λ e. omega arith) (λ e. omega arith))) old))
        | inr high ↦ (let here : m ≡ n = omega arith in
            let own : content_at new m ≡ x = ap (λ (xs : List Content). slice_index_or xs m d) contents ∙ content-last space.contents.items x d m (omega arith) in
            let R : Content → Type 0 = λ y. IsContent v.sizes (block_of v.size w.image m) y in
            let kind : kind_of (block_of v.size w.image m) ≡ 3 = ap (λ (i : ℕ). kind_of (block_of v.size w.image i)) here ∙ g.kind in
            subst R (sym own) (record { kind_is = sym kind; bound = λ e. absurd (cc) }))
      ];
      lowest = λ k m some under beneath is-data. elim (cases_lt m n) [
        | inl l ↦ (let same = before m l in rw same (h.lowest k m some (rw lowest at under) (omega arith) (rw same at is-data)))
        | inr high ↦ (let here : m ≡ n = omega arith in
            let own : content_at new m ≡ x = ap (λ (xs : List Content). slice_index_or xs m d) contents ∙ content-last space.contents.items x d m (omega arith) in
            let three : (content_at new m).kind ≡ 3 = ap (λ (y : Content). y.kind) own in absurd (omega arith))
      ];
      free =
          let more = grown-free g f positive in
          let old = h.free in
          let one : free_below v.size v.image (blocks_in v.size v.image) ≡ free_below v.size v.image n = ap (λ (k : ℕ). free_below v.size v.image k) old-blocks in
          let two : free_below v.size w.image (blocks_in v.size w.image) ≡ free_below v.size w.image (n + 1) = ap (λ (k : ℕ). free_below v.size w.image k) new-blocks in
          omega arith;
      lowest_free = λ m some under beneath three.
          let l : m < n = omega (arith, h.len) in
          h.lowest_free m some (omega arith) (omega arith) (ap kind_of (sym (grown-block g f positive m (λ e. omega arith) (λ e. omega arith))) ∙ three);
    }

-- a volume that grew by a block of zeros, then got the new count, and then the kind of the new block
pub is-grown : (v w : VolumeState) (i1 i2 : List ℕ) → IsFormatted v → 44 ≤ v.size → AreSame v w → (header_of v.image).count < (header_of v.image).largest
    → i1 ≡ grown v.size v.image 1 → ChangesBlock v.size 0 i1 i2 → block_of v.size i2 0 ≡ with_bytes (block_of v.size i1 0) 12 (big_bytes 4 ((header_of v.image).count + 1))
    → ChangesBlock v.size (header_of v.image).count i2 w.image → block_of v.size w.image (header_of v.image).count ≡ with_bytes (block_of v.size i2 (header_of v.image).count) 2 (3 ∷ [])
    → IsGrown v w
is-grown v w i1 i2 f least same below one two head three kind =
    let n : ℕ = (header_of v.image).count in
    let first = f.header.first in
    let whole = f.header.whole in
    let bound = f.header.bound in
    let more : length i1 ≡ length v.image + 1 * v.size = ap length one ∙ length-grown v.size 1 v.image in
    let len2 = two.len in
    let len3 = three.len in
    let some : 0 < n = elim (cases_eq n 0) [
      | inl z ↦ (let none : n * v.size ≡ 0 = rw z (let e : 0 * v.size ≡ 0 = omega arith in e) in absurd (omega arith))
      | inr s ↦ omega arith
    ] in
    let zeroth : block_of v.size i1 0 ≡ block_of v.size v.image 0 = ap (λ (i : List ℕ). block_of v.size i 0) one ∙ block-grown v.size 1 0 v.image first in
    let number : HasNumber v.size 12 (n + 1) v.image w.image = record {
      least = least;
      before = first;
      after = omega arith;
      fits = omega arith;
      small = omega arith;
      block = three.others 0 (omega arith) (λ e. omega arith) ∙ head ∙ ap (λ (b : List ℕ). with_bytes b 12 (big_bytes 4 (n + 1))) zeroth;
    } in
    let there : HasBlock v.size i2 n = omega arith in
    let long = length-block v.size n i2 there in
    record {
      same = same;
      len = omega arith;
      others = λ m t later.
          let low : m < n = elim (cases_lt m n) [
            | inl l ↦ l
            | inr h ↦ (let past : n * v.size ≤ m * v.size = mul-le-mul_right v.size h in absurd (omega arith))
          ] in
          three.others m (omega arith) (λ e. omega arith) ∙ two.others m (omega arith) later ∙ ap (λ (i : List ℕ). block_of v.size i m) one ∙ block-grown v.size 1 m v.image t;
      kind = ap kind_of kind ∙ ap (λ (i : ℕ). slice_index (with_bytes (block_of v.size i2 n) 2 (3 ∷ [])) i) (let e : 2 ≡ 2 + 0 = refl in e) ∙ put-byte (block_of v.size i2 n) (3 ∷ []) 2 0 (omega arith) (omega arith);
      header = header-count v.size (n + 1) v.image w.image number;
      below = below;
    }

-- a formatted volume has as many whole blocks as it counts
pub formatted-count : (v : VolumeState) → HasHeader v.size v.image → 0 < v.size → blocks_in v.size v.image ≡ (header_of v.image).count
formatted-count v h positive =
    let quotient : length v.image / v.size ≡ (header_of v.image).count = rw h.whole (mul-div_cancel (header_of v.image).count positive) in
    let within = h.within in
    let bound = h.bound in
    omega arith

-- and one at least
pub formatted-some : (v : VolumeState) → HasHeader v.size v.image → 0 < v.size → 0 < (header_of v.image).count
formatted-some v h positive =
    let n : ℕ = (header_of v.image).count in
    let whole = h.whole in
    let first = h.first in
    elim (cases_eq n 0) [
      | inl z ↦ (let none : n * v.size ≡ 0 = rw z (let e : 0 * v.size ≡ 0 = omega arith in e) in absurd (omega arith))
      | inr s ↦ omega arith
    ]

-- no more blocks are free than there are
pub free-most : (size : ℕ) (image : List ℕ) (n : ℕ) → free_below size image n ≤ n
free-most size image zero = omega arith
free-most size image (suc n) = let rest = free-most size image n in let one = one-most (is_free size image n) in omega arith

-- ---- a number of the header that is set

module _ (v w : VolumeState) (h : Header) (f : IsFormatted v) (positive : 0 < v.size) (c : HasChanged v w 0) (is : header_of w.image ≡ h)
    (mark : h.mark ≡ (header_of v.image).mark) (count : h.count ≡ (header_of v.image).count) (largest : h.largest ≡ (header_of v.image).largest) where
  set-kinds : (m : ℕ) → m ≢ 0 → kind_of (block_of v.size w.image m) ≡ kind_of (block_at v m)
  set-kinds m some = ap kind_of (other-blocks c f.header m some)

  pub header-set : call.HasNewHeader v h w
  header-set =
      let count-is : (header_of w.image).count ≡ (header_of v.image).count = ap (λ (x : Header). x.count) is ∙ count in
      let largest-is : (header_of w.image).largest ≡ (header_of v.image).largest = ap (λ (x : Header). x.largest) is ∙ largest in
      let len = c.change.len in
      let first = f.header.first in
      record {
        formatted = λ _. record {
          header = record {
            first = rw c.same.size (omega arith);
            mark = ap (λ (x : Header). x.mark) is ∙ mark ∙ f.header.mark;
            whole = len ∙ f.header.whole ∙ (let e : (header_of v.image).count * v.size ≡ (header_of w.image).count * w.size = rw (count-is, c.same.size) refl in e);
            within = rw (count-is, largest-is) f.header.within;
            bound = rw largest-is f.header.bound;
          };
          divided = λ m k.
              let some : m ≢ 0 = (let l = k.later in λ e. omega arith) in
              let P : List ℕ → Type 0 = λ b. HasExtents w.sizes b in
              let Q : List SegmentSize → Type 0 = λ z. HasExtents z (block_of v.size w.image m) in
              let R : List ℕ → Type 0 = λ b. HasExtents v.sizes b in
              subst P (sym (block-seen c.same m)) (subst Q (sym c.same.sizes) (subst R (sym (other-blocks c f.header m some)) (f.divided m (kind-back c.same 1 m len (set-kinds m some) k))));
        };
        is = is;
        block = c.change;
        segments = λ a. elim (cases_eq (a / v.size) 0) [
          | inl z ↦ (let e : find w a ≡ find v a = rw (c.same.size, c.same.sizes, eq-eqb (a / v.size) 0 z) refl in e)
          | inr some ↦ other-segments c f.header a some
        ];
        spares =
            (let free = free-same v.size v.image w.image (header_of v.image).count set-kinds in
            rw (count-is, largest-is, c.same.size, free) refl);
        holes = λ k x.
            let m : ℕ = x.block in
            let some : m ≢ 0 = (let l = x.is_data.later in λ e. omega arith) in
            let P : List ℕ → Type 0 = λ b. k ≤ largest_hole (parts_in w.sizes b) in
            let Q : List SegmentSize → Type 0 = λ z. k ≤ largest_hole (parts_in z (block_of v.size w.image m)) in
            let R : List ℕ → Type 0 = λ b. k ≤ largest_hole (parts_in v.sizes b) in
            record { block = m; is_data = kind-on c.same 1 m len (set-kinds m some) x.is_data; large = subst P (sym (block-seen c.same m)) (subst Q (sym c.same.sizes) (subst R (sym (other-blocks c f.header m some)) x.large)) };
      }

-- what is kept of the blocks says nothing of block 0
pub set-space : (v w : VolumeState) (space : Space) → IsFormatted v → HasChanged v w 0 → IsSpaceOf v.size v.sizes v.image space → IsSpaceOf v.size v.sizes w.image space
set-space v w space f c h =
    let blocks : blocks_in v.size w.image ≡ blocks_in v.size v.image = ap (λ (k : ℕ). min (k / v.size) 65536) c.change.len in
    record {
      len = h.len ∙ sym blocks;
      contents = λ m some below.
          (let R : List ℕ → Type 0 = λ b. IsContent v.sizes b (content_at space m) in
          subst R (sym (other-blocks c f.header m (λ e. omega arith))) (h.contents m some (rw blocks at below)));
      lowest = λ k m some low below. h.lowest k m some low (rw blocks at below);
      free = h.free ∙ (let e : free_below v.size v.image (blocks_in v.size v.image) ≡ free_below v.size w.image (blocks_in v.size w.image) =
          sym (free-same v.size v.image w.image (blocks_in v.size v.image) (λ m some. ap kind_of (other-blocks c f.header m some))) ∙ ap (λ (k : ℕ). free_below v.size w.image k) (sym blocks) in e);
      lowest_free = λ m some low below three. h.lowest_free m some low (rw blocks at below) (ap kind_of (sym (other-blocks c f.header m (λ e. omega arith))) ∙ three);
    }
