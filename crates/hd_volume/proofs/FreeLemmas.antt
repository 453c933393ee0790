-- The bytes that are free in a divided block, as segments are put, freed and made shorter.
use Rattle.std.proofs.Common.{◌≡◌, ◌≢◌, inl, inr, ℕ, ◌+◌, ◌-◌, ◌≤◌, Bool, true, false, cond, ◌==◌, nat_le, List, [], ◌∷◌, length, Option, Some, None, refl, sym, ap, ◌∙◌, arith}
use Rattle.std.proofs.lemmas.Bool.{cases_eq, eqb-true, leb-true}
use Rattle.std.specs.Prelude.{option_map}
use Rattle.hd_bytes.specs.Ranges.{bytes_at}
use Rattle.hd_block.specs.Extents.{Extent, free, used, taken, Fill, IsDivided, AreWhole, UsedAt}
use Rattle.hd_block.specs.Changes.{hole_at, after_take, split_hole, after_fill, after_shrink, after_give, hole_before}
use Rattle.hd_block.specs.Parts.{parts_of, free_bytes}
use Rattle.hd_block.specs.Walk.{parts_in}
use Rattle.hd_block.specs.declared.parts.Part.{Part}
use Rattle.hd_block.specs.declared.parts.Part.TheVariants as part
use Rattle.hd_block.proofs.Walk.{free-within}
use Rattle.hd_block.proofs.PartLemmas.{parts-divided}
use Rattle.hd_volume.specs.Records.{used_at, segment_in}
use Rattle.hd_volume.specs.Rooms.{largest_hole}
use Rattle.hd_volume.specs.Spacing.{HasNoTwo, HasBytesFree}
use Rattle.hd_volume.specs.Spacing as left
use Rattle.hd_volume.specs.Steps.{HasNone}
use Rattle.hd_volume.specs.Volumes.{HasExtents}
use Rattle.hd_volume.proofs.ExtentLemmas.{segment-none}
use Rattle.hd_dbd.specs.declared.facts.SegmentSize.{SegmentSize}

-- ---- the sum of the free elements

-- it is that of the parts
parts-free : (p : ℕ) (xs : List Extent) → left.free_bytes (parts_of p xs) ≡ free_bytes xs
parts-free p [] = refl
parts-free p (free n ∷ xs) = ap (λ (k : ℕ). n + k) (parts-free (p + n) xs)
parts-free p (used n ∷ xs) = parts-free (p + n) xs
parts-free p (taken n ∷ xs) = parts-free (p + n) xs

pub free-divided : (sizes : List SegmentSize) (b : List ℕ) (xs : List Extent) → IsDivided sizes b xs → AreWhole xs → left.free_bytes (parts_in sizes b) ≡ free_bytes xs
free-divided sizes b xs h w = ap (λ (ps : List Part). left.free_bytes ps) (parts-divided sizes b xs h w) ∙ parts-free 8 xs

-- the largest hole is among them
pub largest-free : (parts : List Part) → largest_hole parts ≤ left.free_bytes parts
largest-free [] = omega arith
largest-free (part.Free p n ∷ parts) = let r = largest-free parts in omega arith
largest-free (part.Used p n ∷ parts) = largest-free parts

pub before-free : (n : ℕ) (xs : List Extent) → free_bytes (hole_before n xs) ≡ n + free_bytes xs
before-free n [] = refl
before-free n (free m ∷ xs) = omega arith
before-free n (used m ∷ xs) = refl
before-free n (taken m ∷ xs) = refl

split-free : (size n : ℕ) (xs : List Extent) (one : Bool) → one ≡ (n == size) → size ≤ n → free_bytes (cond one xs (free (n - size) ∷ xs)) + size ≡ n + free_bytes xs
split-free size n xs true is fits = let same : n ≡ size = eqb-true n size (sym is) in omega arith
split-free size n xs false is fits = omega arith

take-by : (size p n q : ℕ) (xs : List Extent) (big : Bool) → big ≡ nat_le size n → (hole_at size (p + n) xs ≡ Some q → free_bytes (after_take size xs) + size ≡ free_bytes xs)
    → cond big (Some p) (hole_at size (p + n) xs) ≡ Some q → free_bytes (cond big (split_hole size n xs) (free n ∷ after_take size xs)) + size ≡ n + free_bytes xs
take-by size p n q xs true is more found = split-free size n xs (n == size) refl (leb-true size n (sym is))
take-by size p n q xs false is more found = let r = more found in omega arith

-- taking room
pub take-free : (size p q : ℕ) (xs : List Extent) → hole_at size p xs ≡ Some q → free_bytes (after_take size xs) + size ≡ free_bytes xs
take-free size p q [] found = absurd (cc)
take-free size p q (free n ∷ xs) found = take-by size p n q xs (nat_le size n) refl (take-free size (p + n) q xs) found
take-free size p q (used n ∷ xs) found = take-free size (p + n) q xs found
take-free size p q (taken n ∷ xs) found = take-free size (p + n) q xs found

fill-by : (n : ℕ) (xs ys : List Extent) (here : Bool) → free_bytes ys ≡ free_bytes xs → free_bytes (cond here (used n ∷ xs) (taken n ∷ ys)) ≡ free_bytes xs
fill-by n xs ys true h = refl
fill-by n xs ys false h = h

-- filling it
pub fill-free : (place p : ℕ) (xs : List Extent) → free_bytes (after_fill place p xs) ≡ free_bytes xs
fill-free place p [] = refl
fill-free place p (free n ∷ xs) = ap (λ (k : ℕ). n + k) (fill-free place (p + n) xs)
fill-free place p (used n ∷ xs) = fill-free place (p + n) xs
fill-free place p (taken n ∷ xs) = fill-by n xs (after_fill place (p + n) xs) (p == place) (fill-free place (p + n) xs)

shrink-by : (n m : ℕ) (xs ys : List Extent) (here : Bool) → free_bytes ys ≡ free_bytes xs → free_bytes (cond here (used m ∷ taken (n - m) ∷ xs) (used n ∷ ys)) ≡ free_bytes xs
shrink-by n m xs ys true h = refl
shrink-by n m xs ys false h = h

-- making a segment shorter
pub shrink-free : (place m p : ℕ) (xs : List Extent) → free_bytes (after_shrink place m p xs) ≡ free_bytes xs
shrink-free place m p [] = refl
shrink-free place m p (free n ∷ xs) = ap (λ (k : ℕ). n + k) (shrink-free place m (p + n) xs)
shrink-free place m p (used n ∷ xs) = shrink-by n m xs (after_shrink place m (p + n) xs) (p == place) (shrink-free place m (p + n) xs)
shrink-free place m p (taken n ∷ xs) = shrink-free place m (p + n) xs

give-by : (n : ℕ) (x : Extent) (xs ys : List Extent) (here : Bool) → free_bytes (x ∷ ys) ≡ free_bytes ys → free_bytes xs ≤ free_bytes ys → free_bytes xs ≤ free_bytes (cond here (hole_before n xs) (x ∷ ys))
give-by n x xs ys true same h = let e = before-free n xs in omega arith
give-by n x xs ys false same h = omega arith

-- giving room back
pub give-free : (place p : ℕ) (xs : List Extent) → free_bytes xs ≤ free_bytes (after_give place p xs)
give-free place p [] = omega arith
give-free place p (free n ∷ xs) = let r = give-free place (p + n) xs in let e = before-free n (after_give place (p + n) xs) in omega arith
give-free place p (used n ∷ xs) = give-by n (used n) xs (after_give place (p + n) xs) (p == place) refl (give-free place (p + n) xs)
give-free place p (taken n ∷ xs) = give-by n (taken n) xs (after_give place (p + n) xs) (p == place) refl (give-free place (p + n) xs)

-- ---- segments of a block

-- where all bytes are free there is no segment
none-used : (sizes : List SegmentSize) (b : List ℕ) (p f : ℕ) (xs : List Extent) → Fill sizes b p f xs → p + free_bytes xs ≡ length b → (q n : ℕ) → UsedAt p xs q n → ⊥
none-used sizes b p f [] h all q n u = u
none-used sizes b p f (free m ∷ xs) h all q n u = none-used sizes b (p + m) _ xs h.2 (omega arith) q n u
none-used sizes b p f (used m ∷ xs) h all q n u = let w = free-within sizes b (p + m) _ xs h.2 in let some = h.1.some in omega arith
none-used sizes b p f (taken m ∷ xs) h all q n u = let w = free-within sizes b (p + m) _ xs h.3 in let some = h.1 in omega arith

pub all-free : (sizes : List SegmentSize) (b : List ℕ) (x : HasExtents sizes b) → 8 + free_bytes x.extents ≡ length b → HasNone sizes b
all-free sizes b x all p = segment-none sizes b x.extents x.divides x.whole p (λ n u. none-used sizes b 8 _ x.extents x.divides all p n u)

map-none : {A B : Type 0} (f : A → B) (o : Option A) → option_map f o ≡ None → o ≡ None
map-none f None e = refl
map-none f (Some x) e = absurd (cc)

-- blocks of the same parts have segments at the same places
pub segment-parts : (sizes : List SegmentSize) (b b' : List ℕ) (p : ℕ) → parts_in sizes b' ≡ parts_in sizes b → segment_in sizes b p ≡ None → segment_in sizes b' p ≡ None
segment-parts sizes b b' p same none =
    let old : used_at (parts_in sizes b) p ≡ None = map-none (λ n. bytes_at b p n) (used_at (parts_in sizes b) p) none in
    let new : used_at (parts_in sizes b') p ≡ None = ap (λ ps. used_at ps p) same ∙ old in
    ap (option_map (λ n. bytes_at b' p n)) new

-- ---- what is left of the space of a block

-- with no segment more, and no fewer bytes free
pub stays-free : (sizes : List SegmentSize) (b b' : List ℕ) → ((p : ℕ) → segment_in sizes b' p ≢ None → segment_in sizes b p ≢ None) → left.free_bytes (parts_in sizes b) ≤ left.free_bytes (parts_in sizes b')
    → (need : ℕ) → HasBytesFree sizes need b → HasBytesFree sizes need b'
stays-free sizes b b' back more need h = elim h [
  | inl two ↦ inl (λ p q x y. two p q (back p x) (back q y))
  | inr big ↦ inr (omega arith)
]

-- with none but one
pub one-alone : (sizes : List SegmentSize) (b : List ℕ) (at : ℕ) → ((p : ℕ) → p ≢ at → segment_in sizes b p ≡ None) → HasNoTwo sizes b
one-alone sizes b at none p q x y =
    elim (cases_eq p at) [
      | inr other ↦ absurd (x (none p other))
      | inl e ↦ elim (cases_eq q at) [ inr other ↦ absurd (y (none q other)) | inl f ↦ e ∙ sym f ]
    ]
