-- The segments of a divided block.
use Rattle.std.proofs.Common.{◌≡◌, inl, inr, ℕ, ◌+◌, ◌≤◌, List, [], ◌∷◌, length, Option, Some, None, refl, sym, ap, ◌∙◌, arith, ne_eqb}
use Rattle.std.specs.Prelude.{option_map}
use Rattle.std.proofs.lemmas.Bool.{cases_eq, eq-eqb}
use Rattle.hd_bytes.specs.Ranges.{bytes_at, AgreeOn}
use Rattle.hd_bytes.proofs.BlockLemmas.{length-bytes_at, agree-bytes_at}
use Rattle.hd_block.specs.Extents.{Extent, free, used, taken, Fill, IsDivided, AreWhole, UsedAt}
use Rattle.hd_block.specs.Parts.{parts_of}
use Rattle.hd_block.specs.Walk.{parts_in}
use Rattle.hd_block.proofs.Walk.{fill-within}
use Rattle.hd_block.proofs.FrameLemmas.{used-ahead}
use Rattle.hd_block.proofs.PartLemmas.{parts-divided}
use Rattle.hd_volume.specs.Records.{used_at, segment_in}
use Rattle.hd_dbd.specs.declared.facts.SegmentSize.{SegmentSize}
use Rattle.hd_block.specs.Sizes.{size_at}

-- A segment of a division takes as many bytes as its code says, and ends in the block.
pub record IsUsed (sizes : List SegmentSize) (b : List ℕ) (p q n : ℕ) : Type 0 where
  pub size : size_at sizes b q ≡ n
  pub some : 8 ≤ n
  pub within : q + n ≤ length b
  pub ahead : p ≤ q

pub used-is : (sizes : List SegmentSize) (b : List ℕ) (p f : ℕ) (xs : List Extent) (q n : ℕ) → Fill sizes b p f xs → UsedAt p xs q n → IsUsed sizes b p q n
used-is sizes b p f [] q n h u = absurd u
used-is sizes b p f (free m ∷ xs) q n h u =
    let r = used-is sizes b (p + m) _ xs q n h.2 u in let some = h.1.element.some in
    let ahead = r.ahead in record { size = r.size; some = r.some; within = r.within; ahead = omega arith }
used-is sizes b p f (taken m ∷ xs) q n h u =
    let r = used-is sizes b (p + m) _ xs q n h.3 u in
    let ahead = r.ahead in record { size = r.size; some = r.some; within = r.within; ahead = omega arith }
used-is sizes b p f (used m ∷ xs) q n h (inl e) =
    let within = fill-within sizes b (p + m) f xs h.2 in
    let some = h.1.some in
    record { size = ap (λ (k : ℕ). size_at sizes b k) (sym e.0) ∙ h.1.size ∙ e.1; some = omega arith; within = omega arith; ahead = omega arith }
used-is sizes b p f (used m ∷ xs) q n h (inr u) =
    let r = used-is sizes b (p + m) _ xs q n h.2 u in
    let ahead = r.ahead in record { size = r.size; some = r.some; within = r.within; ahead = omega arith }

-- a part that is found at a place is a segment there
pub found-used : (p : ℕ) (xs : List Extent) (q n : ℕ) → used_at (parts_of p xs) q ≡ Some n → UsedAt p xs q n
found-used p [] q n e = absurd (cc)
found-used p (free m ∷ xs) q n e = found-used (p + m) xs q n e
found-used p (taken m ∷ xs) q n e = found-used (p + m) xs q n e
found-used p (used m ∷ xs) q n e =
    elim (cases_eq p q) [
      | inl same ↦
          let here : Some m ≡ Some n = rw (eq-eqb p q same) at e in let size : m ≡ n = cc in inl (same, size)
      | inr other ↦ inr (found-used (p + m) xs q n (rw (ne_eqb p q other) at e))
    ]

-- and a segment at a place is found there
pub used-found : (sizes : List SegmentSize) (b : List ℕ) (p f : ℕ) (xs : List Extent) (q n : ℕ) → Fill sizes b p f xs → UsedAt p xs q n → used_at (parts_of p xs) q ≡ Some n
used-found sizes b p f [] q n h u = absurd u
used-found sizes b p f (free m ∷ xs) q n h u = used-found sizes b (p + m) _ xs q n h.2 u
used-found sizes b p f (taken m ∷ xs) q n h u = used-found sizes b (p + m) _ xs q n h.3 u
used-found sizes b p f (used m ∷ xs) q n h (inl e) = rw (eq-eqb p q e.0) (ap (λ (k : ℕ). Some k) e.1)
used-found sizes b p f (used m ∷ xs) q n h (inr u) =
    let r = used-ahead (p + m) xs q n u in
    let some = h.1.some in
    rw (ne_eqb p q (λ e. omega arith)) (used-found sizes b (p + m) _ xs q n h.2 u)

none-by : (p : ℕ) (xs : List Extent) (q : ℕ) (o : Option ℕ) → used_at (parts_of p xs) q ≡ o → ((n : ℕ) → UsedAt p xs q n → ⊥) → o ≡ None
none-by p xs q None is h = refl
none-by p xs q (Some n) is h = absurd (h n (found-used p xs q n is))

-- where no segment is, none is found
pub not-found : (p : ℕ) (xs : List Extent) (q : ℕ) → ((n : ℕ) → UsedAt p xs q n → ⊥) → used_at (parts_of p xs) q ≡ None
not-found p xs q h = none-by p xs q (used_at (parts_of p xs) q) refl h

-- ---- in a divided block

some-of : (b : List ℕ) (q : ℕ) (s : List ℕ) (o : Option ℕ) → option_map (λ n. bytes_at b q n) o ≡ Some s → (n : ℕ) × (o ≡ Some n) × (bytes_at b q n ≡ s)
some-of b q s None e = absurd (cc)
some-of b q s (Some n) e = (n, refl, let same : bytes_at b q n ≡ s = cc in same)

module _ (sizes : List SegmentSize) (b : List ℕ) (xs : List Extent) (divides : IsDivided sizes b xs) (whole : AreWhole xs) where
  parts-are : parts_in sizes b ≡ parts_of 8 xs
  parts-are = parts-divided sizes b xs divides whole

  -- a segment that is found
  pub segment-some : (q : ℕ) (s : List ℕ) → segment_in sizes b q ≡ Some s → (UsedAt 8 xs q (length s)) × (s ≡ bytes_at b q (length s))
  segment-some q s e =
      let f = some-of b q s (used_at (parts_in sizes b) q) e in
      let n : ℕ = f.0 in
      let at : used_at (parts_of 8 xs) q ≡ Some n = ap (λ parts. used_at parts q) (sym parts-are) ∙ f.1 in
      let u = found-used 8 xs q n at in
      let k = used-is sizes b 8 _ xs q n divides u in
      let len : length s ≡ n = ap length (sym f.2) ∙ length-bytes_at b q n k.within in
      (rw len u, rw len (sym f.2))

  pub segment-is : (q n : ℕ) → UsedAt 8 xs q n → segment_in sizes b q ≡ Some (bytes_at b q n)
  segment-is q n u = ap (λ parts. option_map (λ m. bytes_at b q m) (used_at parts q)) parts-are ∙ ap (option_map (λ m. bytes_at b q m)) (used-found sizes b 8 _ xs q n divides u)

  pub segment-none : (q : ℕ) → ((n : ℕ) → UsedAt 8 xs q n → ⊥) → segment_in sizes b q ≡ None
  segment-none q h = ap (λ parts. option_map (λ m. bytes_at b q m) (used_at parts q)) parts-are ∙ ap (option_map (λ m. bytes_at b q m)) (not-found 8 xs q h)

same-by : (sizes : List SegmentSize) (b b' : List ℕ) (xs ys : List Extent) (h : IsDivided sizes b xs) (k : IsDivided sizes b' ys) (w : AreWhole xs) (z : AreWhole ys) (q : ℕ) (o : Option ℕ)
    → used_at (parts_of 8 xs) q ≡ o → ((n : ℕ) → UsedAt 8 xs q n → UsedAt 8 ys q n × AgreeOn q n b b') → ((n : ℕ) → UsedAt 8 ys q n → UsedAt 8 xs q n)
    → segment_in sizes b' q ≡ segment_in sizes b q
same-by sizes b b' xs ys h k w z q (Some n) is on back =
    let u = found-used 8 xs q n is in
    let v = on n u in
    let i = used-is sizes b 8 _ xs q n h u in
    let j = used-is sizes b' 8 _ ys q n k v.0 in
    segment-is sizes b' ys k z q n v.0 ∙ ap (λ (t : List ℕ). Some t) (sym (agree-bytes_at q n b b' i.within j.within v.1)) ∙ sym (segment-is sizes b xs h w q n u)
same-by sizes b b' xs ys h k w z q None is on back =
    let none = λ (n : ℕ) (u : UsedAt 8 xs q n). (let found : ◌≡◌ {A = Option ℕ} None (Some n) = sym is ∙ used-found sizes b 8 _ xs q n h u in let f : ⊥ = cc in f) in
    segment-none sizes b' ys k z q (λ n v. none n (back n v)) ∙ sym (segment-none sizes b xs h w q none)

-- where two blocks have the same segment at a place, with the same bytes, or none
pub segment-same : (sizes : List SegmentSize) (b b' : List ℕ) (xs ys : List Extent) → IsDivided sizes b xs → IsDivided sizes b' ys → AreWhole xs → AreWhole ys → (q : ℕ)
    → ((n : ℕ) → UsedAt 8 xs q n → UsedAt 8 ys q n × AgreeOn q n b b') → ((n : ℕ) → UsedAt 8 ys q n → UsedAt 8 xs q n)
    → segment_in sizes b' q ≡ segment_in sizes b q
segment-same sizes b b' xs ys h k w z q on back = same-by sizes b b' xs ys h k w z q (used_at (parts_of 8 xs) q) refl on back
