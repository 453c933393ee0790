-- A divided block of which a segment is made shorter.
use Rattle.std.proofs.Common.{◌≡◌, ◌≢◌, inl, inr, ℕ, ◌+◌, ◌-◌, ◌%◌, ◌<◌, ◌≤◌, List, [], ◌∷◌, length, slice_index, Option, Some, None, refl, sym, ap, ◌∙◌, arith, ne_eqb}
use Rattle.std.proofs.lemmas.Bool.{eq-eqb}
use Rattle.std.proofs.lemmas.Grind.{same_number_lists}
use Rattle.hd_bytes.specs.Ranges.{bytes_at, with_bytes, ChangesOnly, AgreeOn}
use Rattle.hd_bytes.proofs.BlockLemmas.{agree-changed, agree-bytes_at, bytes-with}
use Rattle.hd_bytes.proofs.NumberLemmas.{changes-with, length-with, number-below}
use Rattle.hd_block.specs.Extents.{Extent, free, used, taken, Fill, IsDivided, AreWhole, UsedAt, TakenAt}
use Rattle.hd_block.specs.Changes.{after_shrink, after_give, hole_before}
use Rattle.hd_block.specs.Parts.{parts_of}
use Rattle.hd_block.specs.Walk.{parts_in}
use Rattle.hd_block.proofs.FrameLemmas.{used-ahead, agree-both}
use Rattle.hd_block.proofs.SizeLemmas.{size-moved}
use Rattle.hd_block.proofs.LawLemmas.{fill-shrunk, used-apart}
use Rattle.hd_block.proofs.PartLemmas.{parts-divided}
use Rattle.hd_volume.specs.Records.{segment_in}
use Rattle.hd_volume.specs.Rooms.{largest_hole}
use Rattle.hd_volume.specs.Edits.{IsGiven}
use Rattle.hd_volume.specs.Spacing as left
use Rattle.hd_volume.proofs.ExtentLemmas.{used-is, segment-is, segment-same}
use Rattle.hd_volume.proofs.FreeLemmas.{free-divided, shrink-free, give-free}
use Rattle.hd_volume.proofs.EditLemmas.{before-is, largest-within, put-byte}
use Rattle.hd_dbd.specs.declared.facts.SegmentSize.{SegmentSize}
use Rattle.hd_block.specs.Sizes.{size_at}

-- Of extents that begin at p, those after the segment of n bytes at q was made one of m: `ys` where its rest is still handed out,
-- `zs` once that is a hole. All other segments are as they were, and the holes no smaller.
record HasShrunk (p : ℕ) (xs ys zs : List Extent) (q n m : ℕ) : Type 0 where
  pub rest : TakenAt p ys (q + m) (n - m)
  pub stands : UsedAt p ys q m
  pub stay : (r k : ℕ) → UsedAt p xs r k → r ≢ q → UsedAt p ys r k
  pub whole : AreWhole zs
  pub is : UsedAt p zs q m
  pub on : (r k : ℕ) → UsedAt p xs r k → r ≢ q → UsedAt p zs r k
  pub back : (r k : ℕ) → UsedAt p zs r k → r ≢ q → UsedAt p xs r k
  pub holes : largest_hole (parts_of p xs) ≤ largest_hole (parts_of p zs)

-- where the segment begins the extents
shrunk-here : (p n m : ℕ) (xs : List Extent) → m < n → AreWhole xs → HasShrunk p (used n ∷ xs) (used m ∷ taken (n - m) ∷ xs) (used m ∷ hole_before (n - m) xs) p n m
shrunk-here p n m xs less whole =
    let ends : p + m + (n - m) ≡ p + n = omega arith in
    let h = before-is (p + m) (n - m) xs in
    record {
      rest = inl (refl, refl);
      stands = inl (refl, refl);
      stay = λ r k u other. elim u [ inl e ↦ absurd (other (sym e.0)) | inr v ↦ inr (rw ends v) ];
      whole = h.whole whole;
      is = inl (refl, refl);
      on = λ r k u other. elim u [ inl e ↦ absurd (other (sym e.0)) | inr v ↦ inr (h.on r k (rw ends v)) ];
      back = λ r k u other. elim u [ inl e ↦ absurd (other (sym e.0)) | inr v ↦ inr (rw ends at (h.back r k v)) ];
      holes = rw ends at h.holes;
    }

-- behind another segment
shrunk-behind : (p k : ℕ) (xs ys zs : List Extent) (q n m : ℕ) → HasShrunk (p + k) xs ys zs q n m → HasShrunk p (used k ∷ xs) (used k ∷ ys) (used k ∷ zs) q n m
shrunk-behind p k xs ys zs q n m h = record {
  rest = h.rest;
  stands = inr h.stands;
  stay = λ r j u other. elim u [ inl e ↦ inl e | inr v ↦ inr (h.stay r j v other) ];
  whole = h.whole;
  is = inr h.is;
  on = λ r j u other. elim u [ inl e ↦ inl e | inr v ↦ inr (h.on r j v other) ];
  back = λ r j u other. elim u [ inl e ↦ inl e | inr v ↦ inr (h.back r j v other) ];
  holes = h.holes;
}

shrunk-extents : (sizes : List SegmentSize) (b : List ℕ) (p f : ℕ) (xs : List Extent) (q n m : ℕ) → Fill sizes b p f xs → AreWhole xs → UsedAt p xs q n → 8 ≤ m → m < n
    → HasShrunk p xs (after_shrink q m p xs) (after_give (q + m) p (after_shrink q m p xs)) q n m
shrunk-extents sizes b p f [] q n m h w u some less = absurd u
shrunk-extents sizes b p f (taken k ∷ xs) q n m h w u some less = absurd w
shrunk-extents sizes b p f (free k ∷ xs) q n m h w u some less =
    let r = shrunk-extents sizes b (p + k) _ xs q n m h.2 w u some less in
    let x = before-is p k (after_give (q + m) (p + k) (after_shrink q m (p + k) xs)) in
    let hole = x.hole in
    let more = x.holes in
    let holes = r.holes in
    record {
      rest = r.rest;
      stands = r.stands;
      stay = r.stay;
      whole = x.whole r.whole;
      is = x.on q m r.is;
      on = λ i j v other. x.on i j (r.on i j v other);
      back = λ i j v other. r.back i j (x.back i j v) other;
      holes = omega arith;
    }
shrunk-extents sizes b p f (used k ∷ xs) q n m h w (inl e) some less =
    let here = shrunk-here p k m xs (omega arith) w in
    let ys-is : after_shrink q m p (used k ∷ xs) ≡ used m ∷ taken (k - m) ∷ xs = rw (eq-eqb p q e.0) refl in
    let zs-is : after_give (q + m) p (used m ∷ taken (k - m) ∷ xs) ≡ used m ∷ hole_before (k - m) xs = rw (ne_eqb p (q + m) (λ v. omega arith), eq-eqb (p + m) (q + m) (omega arith)) refl in
    rw (ys-is, zs-is, ← e.0, ← e.1) here
shrunk-extents sizes b p f (used k ∷ xs) q n m h w (inr u) some less =
    let ahead = used-ahead (p + k) xs q n u in
    let least = h.1.some in
    let ys : List Extent = after_shrink q m (p + k) xs in
    let ys-is : after_shrink q m p (used k ∷ xs) ≡ used k ∷ ys = rw (ne_eqb p q (λ v. omega arith)) refl in
    let zs-is : after_give (q + m) p (used k ∷ ys) ≡ used k ∷ after_give (q + m) (p + k) ys = rw (ne_eqb p (q + m) (λ v. omega arith)) refl in
    rw (ys-is, zs-is) (shrunk-behind p k xs ys (after_give (q + m) (p + k) ys) q n m (shrunk-extents sizes b (p + k) f xs q n m h.2 w u some less))

-- A shorter segment stands where one was; all others are as they were.
pub record IsShrunkIn (sizes : List SegmentSize) (b b' : List ℕ) (q : ℕ) (bs : List ℕ) : Type 0 where
  pub extents : List Extent
  pub divides : IsDivided sizes b' extents
  pub whole : AreWhole extents
  pub is : segment_in sizes b' q ≡ Some bs
  pub others : (p : ℕ) → p ≢ q → segment_in sizes b' p ≡ segment_in sizes b p
  pub kind : slice_index b' 2 ≡ slice_index b 2
  pub unused : AgreeOn 3 5 b b'
  pub holes : largest_hole (parts_in sizes b) ≤ largest_hole (parts_in sizes b')
  pub most : largest_hole (parts_in sizes b') ≤ length b'
  pub was : segment_in sizes b q ≢ None
  pub free_bytes : left.free_bytes (parts_in sizes b) ≤ left.free_bytes (parts_in sizes b')

pub shrink-edits : (sizes : List SegmentSize) (b b2 : List ℕ) (xs : List Extent) (q n : ℕ) (bs : List ℕ) → IsDivided sizes b xs → AreWhole xs → UsedAt 8 xs q n → 8 ≤ length bs → length bs % 8 ≡ 0
    → length bs < n → size_at sizes bs 0 ≡ length bs → IsGiven sizes (q + length bs) (n - length bs) (with_bytes b q bs) b2 → IsShrunkIn sizes b b2 q bs
shrink-edits sizes b b2 xs q n bs h w u some eighths less code t =
    let m : ℕ = length bs in
    let b1 : List ℕ = with_bytes b q bs in
    let ys : List Extent = after_shrink q m 8 xs in
    let zs : List Extent = after_give (q + m) 8 ys in
    let k = used-is sizes b 8 _ xs q n h u in
    let end = k.within in
    let ahead = k.ahead in
    let x = shrunk-extents sizes b 8 _ xs q n m h w u some less in
    let c = changes-with b bs q (omega arith) in
    let inside : ChangesOnly q n b b1 = record { len = c.len; below = λ j l. c.below j l; above = λ j l. c.above j (omega arith) } in
    let first : size_at sizes b1 q ≡ m = size-moved sizes bs b1 0 q m (λ j l. put-byte b bs q j (omega arith) l ∙ ap (slice_index bs) (let z : j ≡ 0 + j = omega arith in z)) some code in
    let handed : IsDivided sizes b1 ys = rw (number-below 2 0 c (omega arith)) (fill-shrunk sizes b b1 8 _ xs q n m (omega arith) h u inside first some eighths less) in
    let divides : IsDivided sizes b2 zs = t.after ys handed (inr x.rest) in
    let i = used-is sizes b1 8 _ ys q m handed x.stands in
    let j = used-is sizes b2 8 _ zs q m divides x.is in
    let stands : AgreeOn q m b1 b2 = t.others ys q m handed (inr x.rest) x.stands (λ e. omega arith) in
    let before = parts-divided sizes b xs h w in
    let after = parts-divided sizes b2 zs divides x.whole in
    record {
      extents = zs;
      divides = divides;
      whole = x.whole;
      is = segment-is sizes b2 zs divides x.whole q m x.is ∙ ap (λ (s : List ℕ). Some s) (sym (agree-bytes_at q m b1 b2 i.within j.within stands) ∙ bytes-with b bs q (omega arith));
      others = λ p other. segment-same sizes b b2 xs zs h divides w x.whole p
          (λ l v.
          let apart = used-apart 8 xs q n p l u v in
          let away : p ≢ q + m = λ e. elim apart [ inl d ↦ other (sym d.0) | inr (inl d) ↦ omega arith | inr (inr d) ↦ omega arith ] in (
            x.on p l v other,
            agree-both p l b b1 b2 (elim apart [
              | inl d ↦ absurd (other (sym d.0))
              | inr (inl d) ↦ agree-changed p l c (inr (omega arith))
              | inr (inr d) ↦ agree-changed p l c (inl (omega arith))
            ]) (t.others ys p l handed (inr x.rest) (x.stay p l v other) away),
          ))
          (λ l v. x.back p l v other);
      kind = sym (t.head 2 (omega arith) (omega arith)) ∙ c.below 2 (omega arith);
      unused = λ j l h. sym (c.below j (omega arith)) ∙ t.head j (omega arith) (omega arith);
      holes = rw (before, after) x.holes;
      most = rw after (largest-within sizes b2 8 _ zs divides);
      was = λ e. (let some : ◌≡◌ {A = Option (List ℕ)} None (Some (bytes_at b q n)) = sym e ∙ segment-is sizes b xs h w q n u in absurd (cc));
      free_bytes = (let one = free-divided sizes b xs h w in let two = free-divided sizes b2 zs divides x.whole in let e = shrink-free q m 8 xs in let g = give-free (q + m) 8 ys in omega arith);
    }

-- bytes that are written over all of a list
pub with-all : (s bs : List ℕ) → length bs ≡ length s → with_bytes s 0 bs ≡ bs
with-all s bs same =
    same_number_lists (with_bytes s 0 bs) bs (length-with s bs 0 (omega arith) ∙ sym same)
    (λ j l. let low : j < length bs = omega (arith, length-with s bs 0 (omega arith)) in
    ap (slice_index (with_bytes s 0 bs)) (let z : j ≡ 0 + j = omega arith in z) ∙ put-byte s bs 0 j (omega arith) low)
