-- A write of one number of the chain of free elements, and of what lies behind a place.
use Rattle.std.proofs.Common.{◌≡◌, ◌≢◌, ℕ, ◌+◌, ◌<◌, ◌≤◌, ◌⊎◌, inl, inr, List, [], ◌∷◌, ◌++◌, length, slice_index, refl, sym, ap, ◌∙◌, subst, arith}
use Rattle.hd_bytes.specs.Numbers.{number_at}
use Rattle.hd_bytes.specs.Ranges.{AgreeOn}
use Rattle.hd_bytes.proofs.NumberLemmas.{number-same}
use Rattle.hd_block.specs.Extents.{Extent, free, used, taken, IsHole, IsSegment, Fill}
use Rattle.hd_block.specs.Found.{Way}
use Rattle.hd_block.proofs.SizeLemmas.{size-kept}
use Rattle.hd_dbd.specs.declared.facts.SegmentSize.{SegmentSize}

-- below q only the two bytes at m may differ
pub record Redirects (b b' : List ℕ) (m q : ℕ) : Type 0 where
  pub len : length b' ≡ length b
  pub below : (k : ℕ) → k < q → k < m → slice_index b' k ≡ slice_index b k
  pub above : (k : ℕ) → k < q → m + 2 ≤ k → slice_index b' k ≡ slice_index b k

-- the two bytes at m then lead to no place, past q, or to q, where no free element ends there
pub data LeadsOn (b b' : List ℕ) (m q : ℕ) : Type 0 where
  ends : number_at 2 b' m ≡ 0 → LeadsOn b b' m q
  past : q < number_at 2 b' m → LeadsOn b b' m q
  to : number_at 2 b' m ≡ q → (8 ≤ m → m + number_at 2 b (m + 2) ≢ q) → LeadsOn b b' m q

-- a number clear of the two bytes stays
number-kept : {b b' : List ℕ} {m q : ℕ} → Redirects b b' m q → (k p : ℕ) → p + k ≤ q → (p + k ≤ m) ⊎ (m + 2 ≤ p) → number_at k b' p ≡ number_at k b p
number-kept {b} {b'} r k p h (inl l) = number-same k p b' b (λ j a c. r.below j (omega arith) (omega arith))
number-kept {b} {b'} r k p h (inr l) = number-same k p b' b (λ j a c. r.above j (omega arith) (omega arith))

-- a byte clear of them stays
byte-kept : {b b' : List ℕ} {m q : ℕ} → Redirects b b' m q → (p : ℕ) → p < q → (p < m) ⊎ (m + 2 ≤ p) → slice_index b' p ≡ slice_index b p
byte-kept r p h (inl l) = r.below p h l
byte-kept r p h (inr l) = r.above p h l

-- the number that leads on is the first one, or stands in a free element on the way
pub way-link : (sizes : List SegmentSize) (b : List ℕ) (p f l : ℕ) (xs : List Extent) (q g m : ℕ) → Way sizes b p f l xs q g m → (m ≡ l) ⊎ (p ≤ m)
way-link sizes b p f l [] q g m w = inl (sym w.2)
way-link sizes b p f l (free n ∷ xs) q g m w = elim (way-link sizes b (p + n) (number_at 2 b p) p xs q g m w.2) [ inl e ↦ inr (omega arith) | inr h ↦ inr (omega arith) ]
way-link sizes b p f l (used n ∷ xs) q g m w = elim (way-link sizes b (p + n) f l xs q g m w.2) [ inl e ↦ inl e | inr h ↦ inr (omega arith) ]
way-link sizes b p f l (taken n ∷ xs) q g m w = elim (way-link sizes b (p + n) f l xs q g m w.3) [ inl e ↦ inl e | inr h ↦ inr (omega arith) ]

-- a way leads on, past that number
pub way-within : (sizes : List SegmentSize) (b : List ℕ) (p f l : ℕ) (xs : List Extent) (q g m : ℕ) → l + 8 ≤ p → Way sizes b p f l xs q g m → (p ≤ q) × (m + 8 ≤ q)
way-within sizes b p f l [] q g m h w = (omega arith, omega arith)
way-within sizes b p f l (free n ∷ xs) q g m h w =
    let e = w.1.element.some in let r = way-within sizes b (p + n) (number_at 2 b p) p xs q g m (omega arith) w.2 in (omega arith, omega arith)
way-within sizes b p f l (used n ∷ xs) q g m h w =
    let r = way-within sizes b (p + n) f l xs q g m (omega arith) w.2 in (omega arith, omega arith)
way-within sizes b p f l (taken n ∷ xs) q g m h w =
    let r = way-within sizes b (p + n) f l xs q g m (omega arith) w.3 in (omega arith, omega arith)

-- the number that leads on is the next free element's place
pub way-next : (sizes : List SegmentSize) (b : List ℕ) (p f l : ℕ) (xs : List Extent) (q g m : ℕ) → number_at 2 b l ≡ f → Way sizes b p f l xs q g m → number_at 2 b m ≡ g
way-next sizes b p f l [] q g m k w = ap (number_at 2 b) (sym w.2) ∙ k ∙ w.1
way-next sizes b p f l (free n ∷ xs) q g m k w = way-next sizes b (p + n) (number_at 2 b p) p xs q g m refl w.2
way-next sizes b p f l (used n ∷ xs) q g m k w = way-next sizes b (p + n) f l xs q g m k w.2
way-next sizes b p f l (taken n ∷ xs) q g m k w = way-next sizes b (p + n) f l xs q g m k w.3

-- the free element that it stands in does not end where the next one begins
pub way-apart : (sizes : List SegmentSize) (b : List ℕ) (p f l : ℕ) (xs : List Extent) (q g m : ℕ) → Way sizes b p f l xs q g m → (m ≡ l) ⊎ (m + number_at 2 b (m + 2) ≢ number_at 2 b m)
way-apart sizes b p f l [] q g m w = inl (sym w.2)
way-apart sizes b p f l (free n ∷ xs) q g m w =
    let at = w.1.element.len in
    let apart = w.1.apart in
    elim (way-apart sizes b (p + n) (number_at 2 b p) p xs q g m w.2) [
      | inl e ↦ inr (subst (λ (z : ℕ). z + number_at 2 b (z + 2) ≢ number_at 2 b z) (sym e) (λ u. apart (sym u ∙ ap (λ (z : ℕ). p + z) at)))
      | inr h ↦ inr h
    ]
way-apart sizes b p f l (used n ∷ xs) q g m w = way-apart sizes b (p + n) f l xs q g m w.2
way-apart sizes b p f l (taken n ∷ xs) q g m w = way-apart sizes b (p + n) f l xs q g m w.3

-- a segment or room that was handed out does not begin where the number leads
not-at : {b b' : List ℕ} {m q : ℕ} (p n f l : ℕ) → Redirects b b' m q → (m ≡ l) ⊎ (p + n ≤ m) → l + 8 ≤ p → p + n ≤ q → 8 ≤ n → number_at 2 b l ≡ f → p ≢ f
    → LeadsOn b b' m q → p ≢ number_at 2 b' l
not-at {b} {b'} {m} {q} p n f l r (inl e) h w s k other (ends z) = let t : number_at 2 b' l ≡ number_at 2 b' m = ap (number_at 2 b') (sym e) in λ u. omega arith
not-at {b} {b'} {m} {q} p n f l r (inl e) h w s k other (past z) = let t : number_at 2 b' l ≡ number_at 2 b' m = ap (number_at 2 b') (sym e) in λ u. omega arith
not-at {b} {b'} {m} {q} p n f l r (inl e) h w s k other (to z y) = let t : number_at 2 b' l ≡ number_at 2 b' m = ap (number_at 2 b') (sym e) in λ u. omega arith
not-at {b} {b'} {m} {q} p n f l r (inr e) h w s k other z = λ u. other (u ∙ number-kept r 2 l (omega arith) (inl (omega arith)) ∙ k)

-- a segment is clear of them
clear-of : {b b' : List ℕ} {m l p q : ℕ} (n : ℕ) → Redirects b b' m q → (m ≡ l) ⊎ (p + n ≤ m) → l + 8 ≤ p → p + n ≤ q → AgreeOn p n b' b
clear-of n r (inl e) h w = λ k u v. byte-kept r k (omega arith) (inr (omega arith))
clear-of n r (inr e) h w = λ k u v. byte-kept r k (omega arith) (inl (omega arith))

-- a segment whose bytes stay
pub segment-kept : {sizes : List SegmentSize} {b b' : List ℕ} {p n : ℕ} → AgreeOn p n b' b → IsSegment sizes b p n → IsSegment sizes b' p n
segment-kept {sizes} {b} {b'} {p} {n} e s = record { size = size-kept sizes b b' p n e s.some s.size; some = s.some; whole = s.whole }

-- the element that they stand in still does not end where they lead
element-apart : {b b' : List ℕ} {m q p n : ℕ} → m ≡ p → 8 ≤ p → p + n ≤ q → number_at 2 b (p + 2) ≡ n → LeadsOn b b' m q → number_at 2 b' p ≢ p + n
element-apart {b} {b'} e l w s (ends z) = let t = ap (number_at 2 b') (sym e) in λ u. omega arith
element-apart {b} {b'} e l w s (past z) = let t = ap (number_at 2 b') (sym e) in λ u. omega arith
element-apart {b} {b'} {m} {q} {p} {n} e l w s (to z y) =
    let t = ap (number_at 2 b') (sym e) in
    let len : m + number_at 2 b (m + 2) ≡ p + n = ap (λ (i : ℕ). i + number_at 2 b (i + 2)) e ∙ ap (λ (i : ℕ). p + i) s in
    λ u. y (omega arith) (len ∙ sym u ∙ t ∙ z)

-- a free element on the way stays one
element-kept : {b b' : List ℕ} {m q p n : ℕ} → Redirects b b' m q → (m ≡ p) ⊎ (p + n ≤ m) → 8 ≤ p → p + n ≤ q → IsHole b p n
    → LeadsOn b b' m q → IsHole b' p n
element-kept {b} {b'} {m} {q} {p} {n} r (inl e) l w s z =
    let some = s.element.some in
    record {
      element = record {
        len = number-kept r 2 (p + 2) (omega arith) (inr (omega arith)) ∙ s.element.len;
        task = number-kept r 4 (p + 4) (omega arith) (inr (omega arith)) ∙ s.element.task;
        some = some;
        whole = s.element.whole;
      };
      apart = element-apart e l w s.element.len z;
    }
element-kept {b} {b'} {m} {q} {p} {n} r (inr e) l w s z =
    let some = s.element.some in
    record {
      element = record {
        len = number-kept r 2 (p + 2) (omega arith) (inl (omega arith)) ∙ s.element.len;
        task = number-kept r 4 (p + 4) (omega arith) (inl (omega arith)) ∙ s.element.task;
        some = some;
        whole = s.element.whole;
      };
      apart = λ u. s.apart (sym (number-kept r 2 p (omega arith) (inl (omega arith))) ∙ u);
    }

-- After such a write the same extents lead to place q, and from there on what the number says.
pub reroute : (sizes : List SegmentSize) (b b' : List ℕ) (p f l : ℕ) (xs zs : List Extent) (q g m : ℕ) → Way sizes b p f l xs q g m → number_at 2 b l ≡ f → l + 8 ≤ p → Redirects b b' m q
    → LeadsOn b b' m q → Fill sizes b' q (number_at 2 b' m) zs → Fill sizes b' p (number_at 2 b' l) (xs ++ zs)
reroute sizes b b' p f l [] zs q g m w k h r z t = rw (w.0, w.2) t
reroute sizes b b' p f l (free n ∷ xs) zs q g m w k h r z t =
    let some = w.1.element.some in
    let in_way = way-within sizes b (p + n) (number_at 2 b p) p xs q g m (omega arith) w.2 in
    let link = way-link sizes b (p + n) (number_at 2 b p) p xs q g m w.2 in
    let before : l + 2 ≤ m = elim link [ inl e ↦ omega arith | inr e ↦ omega arith ] in (
      w.0 ∙ sym k ∙ sym (number-kept r 2 l (omega arith) (inl before)),
      element-kept r link (omega arith) in_way.0 w.1 z,
      reroute sizes b b' (p + n) (number_at 2 b p) p xs zs q g m w.2 refl (omega arith) r z t,
    )
reroute sizes b b' p f l (used n ∷ xs) zs q g m w k h r z t =
    let some = w.1.some in
    let in_way = way-within sizes b (p + n) f l xs q g m (omega arith) w.2 in
    let link = way-link sizes b (p + n) f l xs q g m w.2 in (
      not-at p n f l r link h in_way.0 some k w.0 z,
      segment-kept (clear-of n r link h in_way.0) w.1,
      reroute sizes b b' (p + n) f l xs zs q g m w.2 k (omega arith) r z t,
    )
reroute sizes b b' p f l (taken n ∷ xs) zs q g m w k h r z t =
    let in_way = way-within sizes b (p + n) f l xs q g m (omega arith) w.3 in
    let link = way-link sizes b (p + n) f l xs q g m w.3 in (
      not-at p n f l r link h in_way.0 w.1 k w.0 z,
      w.1,
      w.2,
      reroute sizes b b' (p + n) f l xs zs q g m w.3 k (omega arith) r z t,
    )

-- extents that no write touches
pub fill-same : (sizes : List SegmentSize) (b b' : List ℕ) (p f : ℕ) (xs : List Extent) → length b' ≡ length b → ((k : ℕ) → p ≤ k → slice_index b' k ≡ slice_index b k) → Fill sizes b p f xs → Fill sizes b' p f xs
fill-same sizes b b' p f [] len same h = (h.0 ∙ sym len, h.1)
fill-same sizes b b' p f (free n ∷ xs) len same h =
    let same_number : (i q : ℕ) → p ≤ q → number_at i b' q ≡ number_at i b q = λ i q l. number-same i q b' b (λ k a c. same k (omega arith)) in
    let next : number_at 2 b' p ≡ number_at 2 b p = same_number 2 p (omega arith) in (
      h.0,
      record {
        element = record {
          len = same_number 2 (p + 2) (omega arith) ∙ h.1.element.len;
          task = same_number 4 (p + 4) (omega arith) ∙ h.1.element.task;
          some = h.1.element.some;
          whole = h.1.element.whole;
        };
        apart = λ u. h.1.apart (sym next ∙ u);
      },
      rw next (fill-same sizes b b' (p + n) (number_at 2 b p) xs len (λ k l. same k (omega arith)) h.2),
    )
fill-same sizes b b' p f (used n ∷ xs) len same h =
    (h.0, segment-kept (λ k l u. same k l) h.1, fill-same sizes b b' (p + n) f xs len (λ k l. same k (omega arith)) h.2)
fill-same sizes b b' p f (taken n ∷ xs) len same h =
    (h.0, h.1, h.2, fill-same sizes b b' (p + n) f xs len (λ k l. same k (omega arith)) h.3)
