-- Divisions are unique, and stay where segments are written.
use Rattle.std.proofs.Common.{◌≡◌, ◌≢◌, ℕ, ◌+◌, ◌-◌, ◌%◌, ◌<◌, ◌≤◌, ◌⊎◌, inl, inr, List, [], ◌∷◌, refl, sym, ap, ◌∙◌, arith, ne_eqb}
use Rattle.std.proofs.lemmas.Bool.{eq-eqb}
use Rattle.hd_bytes.specs.Ranges.{ChangesOnly}
use Rattle.hd_bytes.specs.Numbers.{number_at}
use Rattle.hd_bytes.proofs.NumberLemmas.{number-below}
use Rattle.hd_block.specs.Extents.{Extent, free, used, taken, IsHole, IsSegment, Fill, AreWhole, UsedAt, TakenAt}
use Rattle.hd_block.specs.Changes.{after_fill, after_shrink}
use Rattle.hd_block.proofs.Walk.{fill-within, fill-ahead, at-ahead, at-taken}
use Rattle.hd_block.proofs.Reroute.{fill-same, segment-kept}
use Rattle.hd_block.proofs.FrameLemmas.{used-ahead}
use Rattle.hd_dbd.specs.declared.facts.SegmentSize.{SegmentSize}
use Rattle.hd_block.specs.Sizes.{size_at}

-- a free element before a change
element-before : {p n : ℕ} {b b' : List ℕ} (q m : ℕ) → ChangesOnly p n b b' → q + m ≤ p → IsHole b q m → IsHole b' q m
element-before q m c l e =
    let some = e.element.some in
    record {
      element = record {
        len = number-below 2 (q + 2) c (omega arith) ∙ e.element.len;
        task = number-below 4 (q + 4) c (omega arith) ∙ e.element.task;
        some = some;
        whole = e.element.whole;
      };
      apart = λ v. e.apart (sym (number-below 2 q c (omega arith)) ∙ v);
    }

-- a change inside a segment that leaves it its size
pub fill-written : (sizes : List SegmentSize) (b b' : List ℕ) (p f : ℕ) (xs : List Extent) (place n : ℕ) → Fill sizes b p f xs → UsedAt p xs place n → ChangesOnly place n b b' → size_at sizes b' place ≡ n → Fill sizes b' p f xs
fill-written sizes b b' p f [] place n h u c k = absurd u
fill-written sizes b b' p f (free m ∷ xs) place n h u c k =
    let some = h.1.element.some in
    let ahead = used-ahead (p + m) xs place n u in
    let next : number_at 2 b' p ≡ number_at 2 b p = number-below 2 p c (omega arith) in
    (h.0, element-before p m c (omega arith) h.1, rw next (fill-written sizes b b' (p + m) (number_at 2 b p) xs place n h.2 u c k))
fill-written sizes b b' p f (taken m ∷ xs) place n h u c k = (h.0, h.1, h.2, fill-written sizes b b' (p + m) f xs place n h.3 u c k)
fill-written sizes b b' p f (used m ∷ xs) place n h (inl e) c k =
    let segment : IsSegment sizes b' p m = record { size = ap (size_at sizes b') e.0 ∙ k ∙ sym e.1; some = h.1.some; whole = h.1.whole } in
    (h.0, segment, fill-same sizes b b' (p + m) f xs c.len (λ j l. c.above j (omega arith)) h.2)
fill-written sizes b b' p f (used m ∷ xs) place n h (inr u) c k =
    let ahead = used-ahead (p + m) xs place n u in
    (h.0, segment-kept (λ j l v. c.below j (omega arith)) h.1, fill-written sizes b b' (p + m) f xs place n h.2 u c k)

-- room that was handed out stands behind where the extents begin
pub taken-ahead : (p : ℕ) (xs : List Extent) (place n : ℕ) → TakenAt p xs place n → p ≤ place
taken-ahead p xs place n u = at-ahead p xs place n (at-taken p xs place n u)

-- a segment that is put into room of its size
pub fill-filled : (sizes : List SegmentSize) (b b' : List ℕ) (p f : ℕ) (xs : List Extent) (place n : ℕ) → Fill sizes b p f xs → TakenAt p xs place n → ChangesOnly place n b b'
    → size_at sizes b' place ≡ n → Fill sizes b' p f (after_fill place p xs)
fill-filled sizes b b' p f [] place n h u c e = absurd u
fill-filled sizes b b' p f (free m ∷ xs) place n h u c e =
    let some = h.1.element.some in
    let ahead = taken-ahead (p + m) xs place n u in
    let next : number_at 2 b' p ≡ number_at 2 b p = number-below 2 p c (omega arith) in
    (h.0, element-before p m c (omega arith) h.1, rw next (fill-filled sizes b b' (p + m) (number_at 2 b p) xs place n h.2 u c e))
fill-filled sizes b b' p f (used m ∷ xs) place n h u c e =
    let ahead = taken-ahead (p + m) xs place n u in
    (h.0, segment-kept (λ j l v. c.below j (omega arith)) h.1, fill-filled sizes b b' (p + m) f xs place n h.2 u c e)
fill-filled sizes b b' p f (taken m ∷ xs) place n h (inl d) c e =
    let segment : IsSegment sizes b' p m = record { size = ap (size_at sizes b') d.0 ∙ e ∙ sym d.1; some = h.1; whole = h.2 } in
    rw (eq-eqb p place d.0) (h.0, segment, fill-same sizes b b' (p + m) f xs c.len (λ j l. c.above j (omega arith)) h.3)
fill-filled sizes b b' p f (taken m ∷ xs) place n h (inr u) c e =
    let ahead = taken-ahead (p + m) xs place n u in
    let some = h.1 in
    rw (ne_eqb p place (λ v. omega arith)) (h.0, h.1, h.2, fill-filled sizes b b' (p + m) f xs place n h.3 u c e)

-- a segment that is made shorter
pub fill-shrunk : (sizes : List SegmentSize) (b b' : List ℕ) (p f : ℕ) (xs : List Extent) (place n m : ℕ) → 0 < p → Fill sizes b p f xs → UsedAt p xs place n → ChangesOnly place n b b'
    → size_at sizes b' place ≡ m → 8 ≤ m → m % 8 ≡ 0 → m < n → Fill sizes b' p f (after_shrink place m p xs)
fill-shrunk sizes b b' p f [] place n m z h u c e some whole less = absurd u
fill-shrunk sizes b b' p f (free k ∷ xs) place n m z h u c e some whole less =
    let least = h.1.element.some in
    let ahead = used-ahead (p + k) xs place n u in
    let next : number_at 2 b' p ≡ number_at 2 b p = number-below 2 p c (omega arith) in
    (h.0, element-before p k c (omega arith) h.1, rw next (fill-shrunk sizes b b' (p + k) (number_at 2 b p) xs place n m (omega arith) h.2 u c e some whole less))
fill-shrunk sizes b b' p f (taken k ∷ xs) place n m z h u c e some whole less = (h.0, h.1, h.2, fill-shrunk sizes b b' (p + k) f xs place n m (omega arith) h.3 u c e some whole less)
fill-shrunk sizes b b' p f (used k ∷ xs) place n m z h (inl d) c e some whole less =
    let segment : IsSegment sizes b' p m = record { size = ap (size_at sizes b') d.0 ∙ e; some = some; whole = whole } in
    let eighths = h.1.whole in
    let apart : p + m ≢ f = elim (fill-ahead sizes b (p + k) f xs h.2) [ inl none ↦ (λ v. omega arith) | inr l ↦ (λ v. omega arith) ] in
    let same : p + m + (k - m) ≡ p + k = omega arith in
    let rest : Fill sizes b' (p + m + (k - m)) f xs = rw same (fill-same sizes b b' (p + k) f xs c.len (λ j l. c.above j (omega arith)) h.2) in
    rw (eq-eqb p place d.0) (h.0, segment, (apart, omega arith, omega arith, rest))
fill-shrunk sizes b b' p f (used k ∷ xs) place n m z h (inr u) c e some whole less =
    let ahead = used-ahead (p + k) xs place n u in
    let least = h.1.some in
    rw (ne_eqb p place (λ v. omega arith)) (h.0, segment-kept (λ j l v. c.below j (omega arith)) h.1, fill-shrunk sizes b b' (p + k) f xs place n m (omega arith) h.2 u c e some whole less)

-- the segments at two places are one, or one ends before the other begins
pub used-apart : (p : ℕ) (xs : List Extent) (place n other m : ℕ) → UsedAt p xs place n → UsedAt p xs other m
    → ((place ≡ other) × (n ≡ m)) ⊎ (place + n ≤ other) ⊎ (other + m ≤ place)
used-apart p [] place n other m u v = absurd u
used-apart p (free k ∷ xs) place n other m u v = used-apart (p + k) xs place n other m u v
used-apart p (taken k ∷ xs) place n other m u v = used-apart (p + k) xs place n other m u v
used-apart p (used k ∷ xs) place n other m (inl e) (inl d) = inl (omega arith, omega arith)
used-apart p (used k ∷ xs) place n other m (inl e) (inr v) = let r = used-ahead (p + k) xs other m v in inr (inl (omega arith))
used-apart p (used k ∷ xs) place n other m (inr u) (inl d) = let r = used-ahead (p + k) xs place n u in inr (inr (omega arith))
used-apart p (used k ∷ xs) place n other m (inr u) (inr v) = used-apart (p + k) xs place n other m u v

-- bytes have one division
pub one-division : (sizes : List SegmentSize) (b : List ℕ) (p f : ℕ) (xs ys : List Extent) → 0 < p → AreWhole xs → AreWhole ys → Fill sizes b p f xs → Fill sizes b p f ys → xs ≡ ys
one-division sizes b p f (taken n ∷ xs) ys k s t h i = absurd s
one-division sizes b p f [] (taken m ∷ ys) k s t h i = absurd t
one-division sizes b p f (free n ∷ xs) (taken m ∷ ys) k s t h i = absurd t
one-division sizes b p f (used n ∷ xs) (taken m ∷ ys) k s t h i = absurd t
one-division sizes b p f [] [] k s t h i = refl
one-division sizes b p f [] (free m ∷ ys) k s t h i = absurd (omega arith)
one-division sizes b p f [] (used m ∷ ys) k s t h i = let some = i.1.some in let w = fill-within sizes b (p + m) f ys i.2 in absurd (omega arith)
one-division sizes b p f (free n ∷ xs) [] k s t h i = absurd (omega arith)
one-division sizes b p f (used n ∷ xs) [] k s t h i = let some = h.1.some in let w = fill-within sizes b (p + n) f xs h.2 in absurd (omega arith)
one-division sizes b p f (free n ∷ xs) (used m ∷ ys) k s t h i = absurd (i.0 h.0)
one-division sizes b p f (used n ∷ xs) (free m ∷ ys) k s t h i = absurd (h.0 i.0)
one-division sizes b p f (free n ∷ xs) (free m ∷ ys) k s t h i =
    let same : m ≡ n = sym i.1.element.len ∙ h.1.element.len in
    let rest : Fill sizes b (p + n) (number_at 2 b p) ys = rw (← same) i.2 in
    ap (λ (z : ℕ). free z ∷ xs) (sym same) ∙ ap (λ (z : List Extent). free m ∷ z) (one-division sizes b (p + n) (number_at 2 b p) xs ys (omega arith) s t h.2 rest)
one-division sizes b p f (used n ∷ xs) (used m ∷ ys) k s t h i =
    let e = h.1.size in
    let d = i.1.size in
    let same : m ≡ n = cc in
    let rest : Fill sizes b (p + n) f ys = rw (← same) i.2 in
    ap (λ (z : ℕ). used z ∷ xs) (sym same) ∙ ap (λ (z : List Extent). used m ∷ z) (one-division sizes b (p + n) f xs ys (omega arith) s t h.2 rest)
