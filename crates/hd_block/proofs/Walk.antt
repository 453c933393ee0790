-- A walk along the free elements of a block, as a way from offset 8 to a place.
use Rattle.std.proofs.Common.{◌≡◌, ◌≢◌, ℕ, ◌+◌, ◌%◌, ◌<◌, ◌≤◌, ◌⊎◌, inl, inr, nat_le, max, false, List, [], ◌∷◌, ◌++◌, length, Some, None, refl, sym, ap, ◌∙◌, subst, arith, append_assoc, cond}
use Rattle.std.proofs.lemmas.Bool.{lt-leb}
use Rattle.hd_bytes.specs.Numbers.{number_at}
use Rattle.hd_block.specs.Extents.{Extent, free, used, taken, IsHole, IsSegment, Fill, IsDivided, UsedAt, TakenAt}
use Rattle.hd_block.specs.Changes.{hole_at, split_hole, after_take}
use Rattle.hd_block.specs.Parts.{largest_free, free_bytes}
use Rattle.hd_block.specs.Found.{Way, At, Keeps, SeeksHole, SeeksLargest, SumsFree, SeeksOffset, Progress, Stands, IsLinked}
use Rattle.hd_block.specs.declared.gives.Link.{Link}
use Rattle.hd_dbd.specs.declared.facts.SegmentSize.{SegmentSize}

-- a way goes on by a free element
pub way-free : (sizes : List SegmentSize) (b : List ℕ) (p f l : ℕ) (xs : List Extent) (q m n : ℕ) → Way sizes b p f l xs q q m → IsHole b q n
    → Way sizes b p f l (xs ++ free n ∷ []) (q + n) (number_at 2 b q) q
way-free sizes b p f l [] q m n w e = (w.0 ∙ sym w.1, rw w.0 e, (ap (λ (x : ℕ). x + n) w.0, ap (number_at 2 b) w.0, w.0))
way-free sizes b p f l (free k ∷ xs) q m n w e = (w.0, w.1, way-free sizes b (p + k) (number_at 2 b p) p xs q m n w.2 e)
way-free sizes b p f l (used k ∷ xs) q m n w e = (w.0, w.1, way-free sizes b (p + k) f l xs q m n w.2 e)
way-free sizes b p f l (taken k ∷ xs) q m n w e = (w.0, w.1, w.2, way-free sizes b (p + k) f l xs q m n w.3 e)

-- it goes on by a segment
pub way-used : (sizes : List SegmentSize) (b : List ℕ) (p f l : ℕ) (xs : List Extent) (q g m n : ℕ) → Way sizes b p f l xs q g m → q ≢ g → IsSegment sizes b q n
    → Way sizes b p f l (xs ++ used n ∷ []) (q + n) g m
way-used sizes b p f l [] q g m n w a e = (λ h. a (sym w.0 ∙ h ∙ w.1), rw w.0 e, (ap (λ (x : ℕ). x + n) w.0, w.1, w.2))
way-used sizes b p f l (free k ∷ xs) q g m n w a e = (w.0, w.1, way-used sizes b (p + k) (number_at 2 b p) p xs q g m n w.2 a e)
way-used sizes b p f l (used k ∷ xs) q g m n w a e = (w.0, w.1, way-used sizes b (p + k) f l xs q g m n w.2 a e)
way-used sizes b p f l (taken k ∷ xs) q g m n w a e = (w.0, w.1, w.2, way-used sizes b (p + k) f l xs q g m n w.3 a e)

-- it goes on by room that was handed out
pub way-taken : (sizes : List SegmentSize) (b : List ℕ) (p f l : ℕ) (xs : List Extent) (q g m n : ℕ) → Way sizes b p f l xs q g m → q ≢ g → 8 ≤ n → n % 8 ≡ 0
    → Way sizes b p f l (xs ++ taken n ∷ []) (q + n) g m
way-taken sizes b p f l [] q g m n w a e d = (λ h. a (sym w.0 ∙ h ∙ w.1), e, d, (ap (λ (x : ℕ). x + n) w.0, w.1, w.2))
way-taken sizes b p f l (free k ∷ xs) q g m n w a e d = (w.0, w.1, way-taken sizes b (p + k) (number_at 2 b p) p xs q g m n w.2 a e d)
way-taken sizes b p f l (used k ∷ xs) q g m n w a e d = (w.0, w.1, way-taken sizes b (p + k) f l xs q g m n w.2 a e d)
way-taken sizes b p f l (taken k ∷ xs) q g m n w a e d = (w.0, w.1, w.2, way-taken sizes b (p + k) f l xs q g m n w.3 a e d)

-- the extents end within the block
pub fill-within : (sizes : List SegmentSize) (b : List ℕ) (p f : ℕ) (xs : List Extent) → Fill sizes b p f xs → p ≤ length b
fill-within sizes b p f [] h = omega arith
fill-within sizes b p f (free n ∷ xs) h = let r = fill-within sizes b (p + n) (number_at 2 b p) xs h.2 in omega arith
fill-within sizes b p f (used n ∷ xs) h = let r = fill-within sizes b (p + n) f xs h.2 in omega arith
fill-within sizes b p f (taken n ∷ xs) h = let r = fill-within sizes b (p + n) f xs h.3 in omega arith

-- the next free element, if there is one, is not before
pub fill-ahead : (sizes : List SegmentSize) (b : List ℕ) (p f : ℕ) (xs : List Extent) → Fill sizes b p f xs → (f ≡ 0) ⊎ (p ≤ f)
fill-ahead sizes b p f [] h = inl h.1
fill-ahead sizes b p f (free n ∷ xs) h = inr (omega arith)
fill-ahead sizes b p f (used n ∷ xs) h = elim (fill-ahead sizes b (p + n) f xs h.2) [ inl e ↦ inl e | inr l ↦ inr (omega arith) ]
fill-ahead sizes b p f (taken n ∷ xs) h = elim (fill-ahead sizes b (p + n) f xs h.3) [ inl e ↦ inl e | inr l ↦ inr (omega arith) ]

-- what a walk keeps, where it passes extents that are not free and end by a place
pub record Passes (kept : Keeps) (g : ℕ) : Type 0 where
  pub used : (before ys : List Extent) (p n : ℕ) → p < g → kept before p (used n ∷ ys) → kept (before ++ used n ∷ []) (p + n) ys
  pub taken : (before ys : List Extent) (p n : ℕ) → p < g → kept before p (taken n ∷ ys) → kept (before ++ taken n ∷ []) (p + n) ys

-- a search for a hole passes them
pub passes-hole : (size : ℕ) (xs : List Extent) (g : ℕ) → Passes (SeeksHole size xs) g
passes-hole size xs g = record {
  used = λ before ys p n l k. (k.0, k.1 ∙ sym (append_assoc before _ _));
  taken = λ before ys p n l k. (k.0, k.1 ∙ sym (append_assoc before _ _));
}

-- what stands at an offset does not stand at another place
at-later : (p k offset n g : ℕ) (ys : List Extent) → p < g → g ≤ offset → ((p ≡ offset) × (k ≡ n)) ⊎ At (p + k) ys offset n → At (p + k) ys offset n
at-later p k offset n g ys l m (inl e) = absurd (omega arith)
at-later p k offset n g ys l m (inr h) = h

-- a search for an offset passes them
pub passes-offset : (offset n g : ℕ) → g ≤ offset → Passes (SeeksOffset offset n) g
passes-offset offset n g m = record {
  used = λ before ys p k l h. at-later p k offset n g ys l m h;
  taken = λ before ys p k l h. at-later p k offset n g ys l m h;
}

-- a walk begins at offset 8
pub begins : (sizes : List SegmentSize) (b : List ℕ) (kept : Keeps) (xs : List Extent) → IsDivided sizes b xs → kept [] 8 xs → Progress sizes b kept xs 8 (number_at 2 b 0) 0
begins sizes b kept xs h k = record { before = []; behind = xs; place = 8; way = (refl, refl, refl); fill = h; far = omega arith; whole = refl; keeps = k }

-- a walk goes on past what is not free
go-on : (sizes : List SegmentSize) (b : List ℕ) (kept : Keeps) (xs : List Extent) (end g m : ℕ) (before behind : List Extent) (place : ℕ)
    → Way sizes b 8 (number_at 2 b 0) 0 before place g m → Fill sizes b place g behind → end ≤ place → xs ≡ before ++ behind → kept before place behind → Passes kept g → g ≢ 0
    → Stands sizes b kept xs end g m (number_at 2 b (g + 2))
go-on sizes b kept xs end g m before [] place w f l e k step some = absurd (some f.1)
go-on sizes b kept xs end g m before (free n ∷ ys) place w f l e k step some =
    let P : ℕ → Type 0 = λ z. Way sizes b 8 (number_at 2 b 0) 0 before place z m → Stands sizes b kept xs end z m (number_at 2 b (z + 2)) in
    subst P f.0 (λ v. record {
      before = before;
      behind = ys;
      way = v;
      hole = rw f.1.element.len f.1;
      fill = rw f.1.element.len f.2;
      far = l;
      whole = rw f.1.element.len e;
      keeps = rw f.1.element.len k;
    }) w
go-on sizes b kept xs end g m before (used n ∷ ys) place w f l e k step some =
    let size = f.1.some in
    let low : place < g = elim (fill-ahead sizes b (place + n) g ys f.2) [ inl z ↦ absurd (some z) | inr z ↦ omega arith ] in
    go-on sizes b kept xs end g m (before ++ used n ∷ []) ys (place + n) (way-used sizes b 8 (number_at 2 b 0) 0 before place g m n w f.0 f.1) f.2 (omega arith)
    (e ∙ sym (append_assoc before _ _)) (step.used before ys place n low k) step some
go-on sizes b kept xs end g m before (taken n ∷ ys) place w f l e k step some =
    let low : place < g = elim (fill-ahead sizes b (place + n) g ys f.3) [ inl z ↦ absurd (some z) | inr z ↦ omega arith ] in
    go-on sizes b kept xs end g m (before ++ taken n ∷ []) ys (place + n) (way-taken sizes b 8 (number_at 2 b 0) 0 before place g m n w f.0 f.1 f.2) f.3 (omega arith)
    (e ∙ sym (append_assoc before _ _)) (step.taken before ys place n low k) step some

-- a walk comes to the next free element
pub stands : {sizes : List SegmentSize} {b : List ℕ} {kept : Keeps} {xs : List Extent} {end g m : ℕ} → Progress sizes b kept xs end g m → Passes kept g → g ≢ 0
    → Stands sizes b kept xs end g m (number_at 2 b (g + 2))
stands {sizes} {b} {kept} {xs} {end} {g} {m} p step some = go-on sizes b kept xs end g m p.before p.behind p.place p.way p.fill p.far p.whole p.keeps step some

-- it passes that element, and may keep another fact from then on
pub passes : {sizes : List SegmentSize} {b : List ℕ} {kept later : Keeps} {xs : List Extent} {end g m n : ℕ} (s : Stands sizes b kept xs end g m n) → later (s.before ++ free n ∷ []) (g + n) s.behind
    → Progress sizes b later xs (g + 8) (number_at 2 b g) g
passes {sizes} {b} {kept} {later} {xs} {end} {g} {m} {n} s k =
    record {
      before = s.before ++ free n ∷ [];
      behind = s.behind;
      place = g + n;
      way = way-free sizes b 8 (number_at 2 b 0) 0 s.before g m n s.way s.hole;
      fill = s.fill;
      far = let e = s.hole.element.some in omega arith;
      whole = s.whole ∙ sym (append_assoc s.before _ _);
      keeps = k;
    }

-- ---- a search for a hole

-- no free element is left
no-hole : (sizes : List SegmentSize) (b : List ℕ) (size p f : ℕ) (xs : List Extent) → 0 < p → f ≡ 0 → Fill sizes b p f xs → hole_at size p xs ≡ None
no-hole sizes b size p f [] l e h = refl
no-hole sizes b size p f (free n ∷ xs) l e h = absurd (omega arith)
no-hole sizes b size p f (used n ∷ xs) l e h = no-hole sizes b size (p + n) f xs (omega arith) e h.2
no-hole sizes b size p f (taken n ∷ xs) l e h = no-hole sizes b size (p + n) f xs (omega arith) e h.3

-- a chain that has ended has no hole
none-left : {sizes : List SegmentSize} {b : List ℕ} {xs : List Extent} {end g m : ℕ} (size : ℕ) → Progress sizes b (SeeksHole size xs) xs end g m → 0 < end → g ≡ 0 → hole_at size 8 xs ≡ None
none-left {sizes} {b} size p l e = p.keeps.0 ∙ no-hole sizes b size p.place _ p.behind (let far = p.far in omega arith) e p.fill

-- nor has one that leads back
pub none-past : {sizes : List SegmentSize} {b : List ℕ} {xs : List Extent} {end g m : ℕ} (size : ℕ) → Progress sizes b (SeeksHole size xs) xs end g m → 0 < end → g < end → hole_at size 8 xs ≡ None
none-past {sizes} {b} {xs} {end} {g} size p l k =
    let far = p.far in
    elim (fill-ahead sizes b p.place g p.behind p.fill) [ inl e ↦ none-left size p l e | inr e ↦ absurd (omega arith) ]

-- an element that is too small is passed
pub passes-small : {sizes : List SegmentSize} {b : List ℕ} {size : ℕ} {xs : List Extent} {end g m n : ℕ} → Stands sizes b (SeeksHole size xs) xs end g m n → n < size
    → Progress sizes b (SeeksHole size xs) xs (g + 8) (number_at 2 b g) g
passes-small {sizes} {b} {size} {xs} {end} {g} {m} {n} s l =
    let small : nat_le size n ≡ false = lt-leb size n l in
    passes s (
      s.keeps.0 ∙ ap (λ c. cond c (Some g) (hole_at size (g + n) s.behind)) small,
      s.keeps.1 ∙ ap (λ c. s.before ++ cond c (split_hole size n s.behind) (free n ∷ after_take size s.behind)) small ∙ sym (append_assoc s.before _ _),
    )

-- ---- a search for the largest hole

-- it passes extents that are not free
pub passes-others : (largest : ℕ) (xs : List Extent) (g : ℕ) → Passes (SeeksLargest largest xs) g
passes-others largest xs g = record { used = λ before ys p n l k. k; taken = λ before ys p n l k. k }

-- and a free element, which may be the largest
pub passes-free : {sizes : List SegmentSize} {b : List ℕ} {xs : List Extent} {end g m n : ℕ} (largest : ℕ) → Stands sizes b (SeeksLargest largest xs) xs end g m n
    → Progress sizes b (SeeksLargest (max largest n) xs) xs (g + 8) (number_at 2 b g) g
passes-free {sizes} {b} {xs} {end} {g} {m} {n} largest s = let keeps : largest_free xs ≡ max largest (max n (largest_free s.behind)) = s.keeps in passes s (omega arith)

-- no free element is left
none-free : (sizes : List SegmentSize) (b : List ℕ) (p f : ℕ) (xs : List Extent) → 0 < p → f ≡ 0 → Fill sizes b p f xs → largest_free xs ≡ 0
none-free sizes b p f [] l e h = refl
none-free sizes b p f (free n ∷ xs) l e h = absurd (omega arith)
none-free sizes b p f (used n ∷ xs) l e h = none-free sizes b (p + n) f xs (omega arith) e h.2
none-free sizes b p f (taken n ∷ xs) l e h = none-free sizes b (p + n) f xs (omega arith) e h.3

-- where the chain has ended, or leads back, all were seen
pub all-seen : {sizes : List SegmentSize} {b : List ℕ} {largest : ℕ} {xs : List Extent} {end g m : ℕ} → Progress sizes b (SeeksLargest largest xs) xs end g m → 0 < end → g < end → largest ≡ largest_free xs
all-seen {sizes} {b} {largest} {xs} {end} {g} p l k =
    let far = p.far in
    let ended : g ≡ 0 = elim (fill-ahead sizes b p.place g p.behind p.fill) [ inl e ↦ e | inr e ↦ absurd (omega arith) ] in
    let none = none-free sizes b p.place g p.behind (omega arith) ended p.fill in
    let keeps : largest_free xs ≡ max largest (largest_free p.behind) = p.keeps in
    omega arith

-- ---- the sum of all free elements

-- the free elements lie in the block
pub free-within : (sizes : List SegmentSize) (b : List ℕ) (p f : ℕ) (xs : List Extent) → Fill sizes b p f xs → p + free_bytes xs ≤ length b
free-within sizes b p f [] h = omega arith
free-within sizes b p f (free n ∷ xs) h = let r = free-within sizes b (p + n) (number_at 2 b p) xs h.2 in omega arith
free-within sizes b p f (used n ∷ xs) h = let r = free-within sizes b (p + n) f xs h.2 in omega arith
free-within sizes b p f (taken n ∷ xs) h = let r = free-within sizes b (p + n) f xs h.3 in omega arith

-- a sum passes extents that are not free
pub passes-unsummed : (total : ℕ) (xs : List Extent) (g : ℕ) → Passes (SumsFree total xs) g
passes-unsummed total xs g = record { used = λ before ys p n l k. k; taken = λ before ys p n l k. k }

-- and a free element, which it counts
pub passes-summed : {sizes : List SegmentSize} {b : List ℕ} {xs : List Extent} {end g m n : ℕ} (total : ℕ) → Stands sizes b (SumsFree total xs) xs end g m n
    → Progress sizes b (SumsFree (total + n) xs) xs (g + 8) (number_at 2 b g) g
passes-summed {sizes} {b} {xs} {end} {g} {m} {n} total s = let keeps : free_bytes xs ≡ total + (n + free_bytes s.behind) = s.keeps in passes s (omega arith)

-- no free element is left
none-more : (sizes : List SegmentSize) (b : List ℕ) (p f : ℕ) (xs : List Extent) → 0 < p → f ≡ 0 → Fill sizes b p f xs → free_bytes xs ≡ 0
none-more sizes b p f [] l e h = refl
none-more sizes b p f (free n ∷ xs) l e h = absurd (omega arith)
none-more sizes b p f (used n ∷ xs) l e h = none-more sizes b (p + n) f xs (omega arith) e h.2
none-more sizes b p f (taken n ∷ xs) l e h = none-more sizes b (p + n) f xs (omega arith) e h.3

-- where the chain has ended, or leads back, all were counted
pub all-summed : {sizes : List SegmentSize} {b : List ℕ} {total : ℕ} {xs : List Extent} {end g m : ℕ} → Progress sizes b (SumsFree total xs) xs end g m → 0 < end → g < end → total ≡ free_bytes xs
all-summed {sizes} {b} {total} {xs} {end} {g} p l k =
    let far = p.far in
    let ended : g ≡ 0 = elim (fill-ahead sizes b p.place g p.behind p.fill) [ inl e ↦ e | inr e ↦ absurd (omega arith) ] in
    let none = none-more sizes b p.place g p.behind (omega arith) ended p.fill in
    let keeps : free_bytes xs ≡ total + free_bytes p.behind = p.keeps in
    omega arith

-- ---- a search for an offset

-- a segment is at its place
pub at-used : (p : ℕ) (xs : List Extent) (place n : ℕ) → UsedAt p xs place n → At p xs place n
at-used p [] place n h = h
at-used p (free k ∷ xs) place n h = at-used (p + k) xs place n h
at-used p (taken k ∷ xs) place n h = inr (at-used (p + k) xs place n h)
at-used p (used k ∷ xs) place n (inl e) = inl e
at-used p (used k ∷ xs) place n (inr h) = inr (at-used (p + k) xs place n h)

-- room that was handed out is at its place
pub at-taken : (p : ℕ) (xs : List Extent) (place n : ℕ) → TakenAt p xs place n → At p xs place n
at-taken p [] place n h = h
at-taken p (free k ∷ xs) place n h = at-taken (p + k) xs place n h
at-taken p (used k ∷ xs) place n h = inr (at-taken (p + k) xs place n h)
at-taken p (taken k ∷ xs) place n (inl e) = inl e
at-taken p (taken k ∷ xs) place n (inr h) = inr (at-taken (p + k) xs place n h)

-- either is
pub at-either : (xs : List Extent) (place n : ℕ) → UsedAt 8 xs place n ⊎ TakenAt 8 xs place n → At 8 xs place n
at-either xs place n (inl h) = at-used 8 xs place n h
at-either xs place n (inr h) = at-taken 8 xs place n h

-- extents stand behind where they begin
pub at-ahead : (p : ℕ) (xs : List Extent) (place n : ℕ) → At p xs place n → p ≤ place
at-ahead p [] place n h = absurd h
at-ahead p (free k ∷ xs) place n h = let r = at-ahead (p + k) xs place n h in omega arith
at-ahead p (used k ∷ xs) place n (inl e) = omega arith
at-ahead p (used k ∷ xs) place n (inr h) = let r = at-ahead (p + k) xs place n h in omega arith
at-ahead p (taken k ∷ xs) place n (inl e) = omega arith
at-ahead p (taken k ∷ xs) place n (inr h) = let r = at-ahead (p + k) xs place n h in omega arith

-- it goes on to the offset
arrive : (sizes : List SegmentSize) (b : List ℕ) (xs : List Extent) (link : Link) (offset n : ℕ) (before behind : List Extent) (place : ℕ) → 0 < place
    → Way sizes b 8 (number_at 2 b 0) 0 before place link.next link.link → Fill sizes b place link.next behind → xs ≡ before ++ behind → At place behind offset n
    → (link.next ≡ 0) ⊎ (offset ≤ link.next) → IsLinked sizes b xs offset n link
arrive sizes b xs link offset n before [] place z w f e h past = absurd h
arrive sizes b xs link offset n before (free k ∷ ys) place z w f e h past =
    let ahead = at-ahead (place + k) ys offset n h in
    let some = f.1.element.some in
    elim past [ inl v ↦ absurd (omega arith) | inr v ↦ absurd (omega arith) ]
arrive sizes b xs link offset n before (used k ∷ ys) place z w f e (inl d) past = record {
  before = before;
  extent = used k;
  behind = ys;
  is = inl (ap used d.1);
  way = rw (← d.0) w;
  fill = rw (← d.0, ← d.1) f.2;
  whole = e;
}
arrive sizes b xs link offset n before (used k ∷ ys) place z w f e (inr h) past =
    arrive sizes b xs link offset n (before ++ used k ∷ []) ys (place + k) (omega arith) (way-used sizes b 8 (number_at 2 b 0) 0 before place link.next link.link k w f.0 f.1) f.2
    (e ∙ sym (append_assoc before _ _)) h past
arrive sizes b xs link offset n before (taken k ∷ ys) place z w f e (inl d) past = record {
  before = before;
  extent = taken k;
  behind = ys;
  is = inr (ap taken d.1);
  way = rw (← d.0) w;
  fill = rw (← d.0, ← d.1) f.3;
  whole = e;
}
arrive sizes b xs link offset n before (taken k ∷ ys) place z w f e (inr h) past =
    arrive sizes b xs link offset n (before ++ taken k ∷ []) ys (place + k) (omega arith) (way-taken sizes b 8 (number_at 2 b 0) 0 before place link.next link.link k w f.0 f.1 f.2) f.3
    (e ∙ sym (append_assoc before _ _)) h past

-- a walk that is past the offset, or at the end of the chain, comes to the offset
pub arrives : {sizes : List SegmentSize} {b : List ℕ} {xs : List Extent} {end offset n : ℕ} (link : Link) → 0 < end → Progress sizes b (SeeksOffset offset n) xs end link.next link.link
    → (link.next < end) ⊎ (offset ≤ link.next) → IsLinked sizes b xs offset n link
arrives {sizes} {b} {xs} {end} {offset} {n} link l p past =
    let far = p.far in
    let ahead = fill-ahead sizes b p.place link.next p.behind p.fill in
    let end_or_past : (link.next ≡ 0) ⊎ (offset ≤ link.next) = elim past [ inl v ↦ elim ahead [ inl e ↦ inl e | inr e ↦ absurd (omega arith) ] | inr v ↦ inr v ] in
    arrive sizes b xs link offset n p.before p.behind p.place (omega arith) p.way p.fill p.whole p.keeps end_or_past

-- an element before the offset is passed
pub passes-before : {sizes : List SegmentSize} {b : List ℕ} {xs : List Extent} {end offset k g m n : ℕ} → Stands sizes b (SeeksOffset offset k) xs end g m n
    → Progress sizes b (SeeksOffset offset k) xs (g + 8) (number_at 2 b g) g
passes-before s = passes s s.keeps
