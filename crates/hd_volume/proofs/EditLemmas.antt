-- A divided block into which bytes are written, into which a segment is put, or of which one is freed.
use Rattle.std.proofs.Common.{◌≡◌, ◌≢◌, ◌⊎◌, inl, inr, ℕ, ◌+◌, ◌-◌, ◌<◌, ◌≤◌, Bool, true, false, cond, ◌==◌, nat_le, max, List, [], ◌∷◌, length, slice_index, Some, None, refl, sym, ap, ◌∙◌, arith, subst}
use Rattle.std.proofs.lemmas.Bool.{cases_lt, eq-eqb, eqb-true, leb-true, leb-false}
use Rattle.std.proofs.lemmas.Grind.{common_steps, same_number_lists}
use Rattle.hd_bytes.specs.Ranges.{bytes_at, with_bytes, ChangesOnly, AgreeOn}
use Rattle.hd_bytes.proofs.BlockLemmas.{length-bytes_at, byte-at, agree-changed, bytes-with}
use Rattle.hd_bytes.proofs.NumberLemmas.{changes-with, length-with, number-below}
use Rattle.hd_block.specs.Extents.{Extent, free, used, taken, Fill, IsDivided, AreWhole, UsedAt, TakenAt}
use Rattle.hd_block.specs.Changes.{hole_at, after_take, split_hole, after_fill, after_give, hole_before}
use Rattle.hd_block.specs.Parts.{parts_of, largest_free}
use Rattle.hd_block.specs.Walk.{parts_in}
use Rattle.hd_block.proofs.Walk.{fill-within}
use Rattle.hd_block.proofs.FrameLemmas.{used-ahead, agree-both}
use Rattle.hd_block.proofs.SizeLemmas.{size-moved}
use Rattle.hd_block.proofs.LawLemmas.{fill-written, fill-filled, used-apart}
use Rattle.hd_block.proofs.PartLemmas.{parts-divided}
use Rattle.hd_volume.specs.Records.{segment_in}
use Rattle.hd_volume.specs.Rooms.{largest_hole}
use Rattle.hd_volume.specs.Volumes.{HasExtents}
use Rattle.hd_volume.specs.Edits.{IsTaken, IsGiven}
use Rattle.hd_volume.specs.Spacing as left
use Rattle.hd_volume.proofs.ExtentLemmas.{used-is, segment-is, segment-none, segment-same}
use Rattle.hd_volume.proofs.FreeLemmas.{free-divided, take-free, fill-free, give-free}
use Rattle.hd_dbd.specs.declared.facts.SegmentSize.{SegmentSize}
use Rattle.hd_block.specs.Sizes.{size_at}

-- ---- writing into a segment

-- a byte of what was put
pub put-byte : (b bs : List ℕ) (p i : ℕ) → p + length bs ≤ length b → i < length bs → slice_index (with_bytes b p bs) (p + i) ≡ slice_index bs i
put-byte b bs p i h l = grind (arith, common_steps)

-- bytes written into a range, seen from the range
pub with-inside : (b bs : List ℕ) (q n o : ℕ) → q + n ≤ length b → o + length bs ≤ n → bytes_at (with_bytes b (q + o) bs) q n ≡ with_bytes (bytes_at b q n) o bs
with-inside b bs q n o h k =
    let b' : List ℕ = with_bytes b (q + o) bs in
    let s : List ℕ = bytes_at b q n in
    let long = length-with b bs (q + o) (omega arith) in
    let len = length-bytes_at b q n h in
    let c = changes-with b bs (q + o) (omega arith) in
    let d = changes-with s bs o (omega arith) in
    same_number_lists (bytes_at b' q n) (with_bytes s o bs) (length-bytes_at b' q n (omega arith) ∙ sym len ∙ sym (length-with s bs o (omega arith)))
    (λ j u.
    let low : j < n = omega (arith, length-bytes_at b' q n (omega arith)) in
    byte-at b' q n j (omega arith) low
    ∙ (elim (cases_lt j o) [
      | inl l ↦ c.below (q + j) (omega arith) ∙ sym (byte-at b q n j h low) ∙ sym (d.below j l)
      | inr l ↦ elim (cases_lt j (o + length bs)) [
        | inl m ↦
            ap (λ (i : ℕ). slice_index b' i) (let e : q + j ≡ q + o + (j - o) = omega arith in e) ∙ put-byte b bs (q + o) (j - o) (omega arith) (omega arith)
            ∙ sym (put-byte s bs o (j - o) (omega arith) (omega arith)) ∙ ap (λ (i : ℕ). slice_index (with_bytes s o bs) i) (let e : o + (j - o) ≡ j = omega arith in e)
        | inr m ↦ c.above (q + j) (omega arith) ∙ sym (byte-at b q n j h low) ∙ sym (d.above j m)
      ]
    ]))

-- A write into a segment that leaves it its size keeps the division, and changes these bytes of the segment alone.
pub record IsEdited (sizes : List SegmentSize) (b b' : List ℕ) (xs : List Extent) (q n o : ℕ) (bs : List ℕ) : Type 0 where
  pub divides : IsDivided sizes b' xs
  pub is : segment_in sizes b' q ≡ Some (with_bytes (bytes_at b q n) o bs)
  pub others : (p : ℕ) → p ≢ q → segment_in sizes b' p ≡ segment_in sizes b p
  pub parts : parts_in sizes b' ≡ parts_in sizes b
  pub kind : slice_index b' 2 ≡ slice_index b 2
  pub unused : AgreeOn 3 5 b b'

pub write-edits : (sizes : List SegmentSize) (b : List ℕ) (xs : List Extent) (q n o : ℕ) (bs : List ℕ) → IsDivided sizes b xs → AreWhole xs → UsedAt 8 xs q n → size_at sizes (with_bytes b (q + o) bs) q ≡ n → o + length bs ≤ n
    → IsEdited sizes b (with_bytes b (q + o) bs) xs q n o bs
write-edits sizes b xs q n o bs h w u keeps within =
    let b' : List ℕ = with_bytes b (q + o) bs in
    let k = used-is sizes b 8 _ xs q n h u in
    let end = k.within in
    let ahead = k.ahead in
    let c = changes-with b bs (q + o) (omega arith) in
    let inside : ChangesOnly q n b b' = record { len = c.len; below = λ j l. c.below j (omega arith); above = λ j l. c.above j (omega arith) } in
    let divides : IsDivided sizes b' xs = rw (number-below 2 0 c (omega arith)) (fill-written sizes b b' 8 _ xs q n h u inside keeps) in
    record {
      divides = divides;
      is = segment-is sizes b' xs divides w q n u ∙ ap (λ (t : List ℕ). Some t) (with-inside b bs q n o end within);
      others = λ p other. segment-same sizes b b' xs xs h divides w w p
          (λ m v. (
            v,
            elim (used-apart 8 xs q n p m u v) [
              | inl e ↦ absurd (other (sym e.0))
              | inr (inl l) ↦ agree-changed p m c (inr (omega arith))
              | inr (inr l) ↦ agree-changed p m c (inl (omega arith))
            ],
          )) (λ m v. v);
      parts = parts-divided sizes b' xs divides w ∙ sym (parts-divided sizes b xs h w);
      kind = c.below 2 (omega arith);
      unused = λ j l h. sym (c.below j (omega arith));
    }

-- ---- putting a segment into a hole

-- Of extents that begin at p, those after a segment of n bytes was put into the first hole of its size, at q: it is new
-- there, and all others are as they were; of each larger hole what the segment left.
pub record HasPut (p : ℕ) (xs ys : List Extent) (q n : ℕ) : Type 0 where
  pub whole : AreWhole ys
  pub ahead : p ≤ q
  pub was : (m : ℕ) → UsedAt p xs q m → ⊥
  pub is : UsedAt p ys q n
  pub on : (r m : ℕ) → UsedAt p xs r m → UsedAt p ys r m
  pub back : (r m : ℕ) → UsedAt p ys r m → UsedAt p xs r m ⊎ ((r ≡ q) × (m ≡ n))
  pub holes : largest_hole (parts_of p ys) ≤ largest_hole (parts_of p xs)
  pub rest : (k : ℕ) → n < k → k ≤ largest_hole (parts_of p xs) → k - n ≤ largest_hole (parts_of p ys)

-- the same where the hole begins the extents
put-first : (p n m : ℕ) (xs : List Extent) (one : Bool) → one ≡ (m == n) → 0 < n → n ≤ m → AreWhole xs → ((r k : ℕ) → UsedAt (p + m) xs r k → p + m ≤ r)
    → HasPut p (free m ∷ xs) (used n ∷ cond one xs (free (m - n) ∷ xs)) p n
put-first p n m xs true is some fits whole ahead =
    let same : m ≡ n = eqb-true m n (sym is) in
    let at : p + m ≡ p + n = omega arith in
    record {
      whole = whole;
      ahead = omega arith;
      was = λ k u. (let a = ahead p k u in omega arith);
      is = inl (refl, refl);
      on = λ r k u. inr (rw (← at) u);
      back = λ r k v. elim v [ inl e ↦ inr (sym e.0, sym e.1) | inr u ↦ inl (rw at u) ];
      holes = rw (← at) (omega arith);
      rest = λ k more h. rw (← at) (omega arith);
    }
put-first p n m xs false is some fits whole ahead =
    let at : p + n + (m - n) ≡ p + m = omega arith in
    record {
      whole = whole;
      ahead = omega arith;
      was = λ k u. (let a = ahead p k u in omega arith);
      is = inl (refl, refl);
      on = λ r k u. inr (rw at u);
      back = λ r k v. elim v [ inl e ↦ inr (sym e.0, sym e.1) | inr u ↦ inl (rw at at u) ];
      holes = rw at (omega arith);
      rest = λ k more h. rw at (omega arith);
    }

-- behind a hole that is left as it is
put-behind-free : (p m : ℕ) (xs ys : List Extent) (q n : ℕ) → HasPut (p + m) xs ys q n → HasPut p (free m ∷ xs) (free m ∷ ys) q n
put-behind-free p m xs ys q n h =
    let ahead = h.ahead in
    let holes = h.holes in
    record {
      whole = h.whole;
      ahead = omega arith;
      was = h.was;
      is = h.is;
      on = h.on;
      back = h.back;
      holes = omega arith;
      rest = λ k more l. elim (cases_lt (largest_hole (parts_of (p + m) xs)) k) [
        | inl j ↦ omega arith
        | inr j ↦ (let r = h.rest k more j in omega arith)
      ];
    }

-- behind a segment
put-behind-used : (p m : ℕ) (xs ys : List Extent) (q n : ℕ) → 8 ≤ m → HasPut (p + m) xs ys q n → HasPut p (used m ∷ xs) (used m ∷ ys) q n
put-behind-used p m xs ys q n some h =
    let ahead = h.ahead in
    record {
      whole = h.whole;
      ahead = omega arith;
      was = λ k u. elim u [ inl e ↦ omega (arith, e.0) | inr v ↦ h.was k v ];
      is = inr h.is;
      on = λ r k u. elim u [ inl e ↦ inl e | inr v ↦ inr (h.on r k v) ];
      back = λ r k u. elim u [ inl e ↦ inl (inl e) | inr v ↦ elim (h.back r k v) [ inl x ↦ inl (inr x) | inr x ↦ inr x ] ];
      holes = h.holes;
      rest = h.rest;
    }

put-by : (p f m : ℕ) (xs : List Extent) (q n : ℕ) (big : Bool) → big ≡ nat_le n m → 0 < n → AreWhole xs → ((r k : ℕ) → UsedAt (p + m) xs r k → p + m ≤ r)
    → (hole_at n (p + m) xs ≡ Some q → HasPut (p + m) xs (after_fill q (p + m) (after_take n xs)) q n)
    → cond big (Some p) (hole_at n (p + m) xs) ≡ Some q → HasPut p (free m ∷ xs) (after_fill q p (cond big (split_hole n m xs) (free m ∷ after_take n xs))) q n
put-by p f m xs q n true is some whole ahead more found =
    let here : p ≡ q = cc in
    let P : ℕ → Type 0 = λ r. HasPut p (free m ∷ xs) (after_fill r p (split_hole n m xs)) r n in
    subst P here (rw (eq-eqb p p refl) (put-first p n m xs (m == n) refl some (leb-true n m (sym is)) whole ahead))
put-by p f m xs q n false is some whole ahead more found =
    put-behind-free p m xs (after_fill q (p + m) (after_take n xs)) q n (more found)

-- a segment of n bytes that is put where the first hole of its size begins
pub put-extents : (sizes : List SegmentSize) (b : List ℕ) (p f : ℕ) (xs : List Extent) (q n : ℕ) → Fill sizes b p f xs → AreWhole xs → 0 < n → hole_at n p xs ≡ Some q
    → HasPut p xs (after_fill q p (after_take n xs)) q n
put-extents sizes b p f [] q n h w some found = absurd (cc)
put-extents sizes b p f (free m ∷ xs) q n h w some found =
    put-by p f m xs q n (nat_le n m) refl some w (λ r k u. used-ahead (p + m) xs r k u) (put-extents sizes b (p + m) _ xs q n h.2 w some) found
put-extents sizes b p f (used m ∷ xs) q n h w some found =
    put-behind-used p m xs (after_fill q (p + m) (after_take n xs)) q n h.1.some (put-extents sizes b (p + m) _ xs q n h.2 w some found)
put-extents sizes b p f (taken m ∷ xs) q n h w some found = absurd w

taken-by : (p m : ℕ) (xs : List Extent) (q n : ℕ) (big : Bool) → (hole_at n (p + m) xs ≡ Some q → TakenAt (p + m) (after_take n xs) q n)
    → cond big (Some p) (hole_at n (p + m) xs) ≡ Some q → TakenAt p (cond big (split_hole n m xs) (free m ∷ after_take n xs)) q n
taken-by p m xs q n true more found = let here : p ≡ q = cc in inl (here, refl)
taken-by p m xs q n false more found = more found

-- the room that was handed out
pub take-taken : (p : ℕ) (xs : List Extent) (q n : ℕ) → hole_at n p xs ≡ Some q → TakenAt p (after_take n xs) q n
take-taken p [] q n found = absurd (cc)
take-taken p (free m ∷ xs) q n found = taken-by p m xs q n (nat_le n m) (take-taken (p + m) xs q n) found
take-taken p (used m ∷ xs) q n found = take-taken (p + m) xs q n found
take-taken p (taken m ∷ xs) q n found = inr (take-taken (p + m) xs q n found)

-- A segment was put at a place of a block where there was none; all others are as they were.
pub record IsPutIn (sizes : List SegmentSize) (b b' : List ℕ) (q : ℕ) (bs : List ℕ) : Type 0 where
  pub extents : List Extent
  pub divides : IsDivided sizes b' extents
  pub whole : AreWhole extents
  pub was : segment_in sizes b q ≡ None
  pub is : segment_in sizes b' q ≡ Some bs
  pub others : (p : ℕ) → p ≢ q → segment_in sizes b' p ≡ segment_in sizes b p
  pub kind : slice_index b' 2 ≡ slice_index b 2
  pub unused : AgreeOn 3 5 b b'
  pub holes : largest_hole (parts_in sizes b') ≤ largest_hole (parts_in sizes b)
  pub rest : (k : ℕ) → length bs < k → k ≤ largest_hole (parts_in sizes b) → k - length bs ≤ largest_hole (parts_in sizes b')
  pub free_bytes : left.free_bytes (parts_in sizes b') + length bs ≡ left.free_bytes (parts_in sizes b)

pub put-edits : (sizes : List SegmentSize) (b b1 : List ℕ) (xs : List Extent) (q : ℕ) (bs : List ℕ) → IsDivided sizes b xs → AreWhole xs → IsTaken sizes (length bs) b (Some q) b1
    → 8 ≤ length bs → size_at sizes bs 0 ≡ length bs → q + length bs ≤ length b1 → IsPutIn sizes b (with_bytes b1 q bs) q bs
put-edits sizes b b1 xs q bs h w t eight code fits =
    let some : 0 < length bs = omega arith in
    let n : ℕ = length bs in
    let b2 : List ℕ = with_bytes b1 q bs in
    let found : hole_at n 8 xs ≡ Some q = sym (t.found xs h) in
    let ys : List Extent = after_fill q 8 (after_take n xs) in
    let x = put-extents sizes b 8 _ xs q n h w some found in
    let c = changes-with b1 bs q fits in
    let ahead = x.ahead in
    let first : size_at sizes b2 q ≡ n = size-moved sizes bs b2 0 q n (λ k l. put-byte b1 bs q k fits l ∙ ap (slice_index bs) (let z : k ≡ 0 + k = omega arith in z)) eight code in
    let divides : IsDivided sizes b2 ys =
    rw (number-below 2 0 c (omega arith)) (fill-filled sizes b1 b2 8 _ (after_take n xs) q n (t.after xs h) (take-taken 8 xs q n found) c first) in
    let before = parts-divided sizes b xs h w in
    let after = parts-divided sizes b2 ys divides x.whole in
    record {
      extents = ys;
      divides = divides;
      whole = x.whole;
      was = segment-none sizes b xs h w q x.was;
      is = segment-is sizes b2 ys divides x.whole q n x.is ∙ ap (λ (t : List ℕ). Some t) (bytes-with b1 bs q fits);
      others = λ p other. segment-same sizes b b2 xs ys h divides w x.whole p
          (λ m u. (
            x.on p m u,
            agree-both p m b b1 b2 (t.others xs p m h u) (elim (used-apart 8 ys q n p m x.is (x.on p m u)) [
              | inl e ↦ absurd (other (sym e.0))
              | inr (inl l) ↦ agree-changed p m c (inr (omega arith))
              | inr (inr l) ↦ agree-changed p m c (inl (omega arith))
            ]),
          ))
          (λ m v. elim (x.back p m v) [ inl u ↦ u | inr e ↦ absurd (other e.0) ]);
      kind = c.below 2 (omega arith) ∙ sym (t.head 2 (omega arith) (omega arith));
      unused = λ k l h. t.head k (omega arith) (omega arith) ∙ sym (c.below k (omega arith));
      holes = rw (before, after) x.holes;
      rest = rw (before, after) x.rest;
      free_bytes = (let one = free-divided sizes b xs h w in let two = free-divided sizes b2 ys divides x.whole in let e = fill-free q 8 (after_take n xs) in let k = take-free n 8 q xs found in omega arith);
    }

-- ---- freeing a segment

-- Of extents that begin at p, those after the segment of n bytes at q was freed: it is gone, and all others are as they
-- were; the holes are no smaller, and one has at least its bytes.
pub record HasFreed (p : ℕ) (xs zs : List Extent) (q n : ℕ) : Type 0 where
  pub whole : AreWhole zs
  pub gone : (m : ℕ) → UsedAt p zs q m → ⊥
  pub on : (r m : ℕ) → UsedAt p xs r m → r ≢ q → UsedAt p zs r m
  pub back : (r m : ℕ) → UsedAt p zs r m → UsedAt p xs r m
  pub hole : n ≤ largest_hole (parts_of p zs)
  pub holes : largest_hole (parts_of p xs) ≤ largest_hole (parts_of p zs)

-- A hole of n bytes was put before extents that begin where it ends.
pub record HasBefore (p n : ℕ) (xs zs : List Extent) : Type 0 where
  pub whole : AreWhole xs → AreWhole zs
  pub on : (r m : ℕ) → UsedAt (p + n) xs r m → UsedAt p zs r m
  pub back : (r m : ℕ) → UsedAt p zs r m → UsedAt (p + n) xs r m
  pub hole : n ≤ largest_hole (parts_of p zs)
  pub holes : largest_hole (parts_of (p + n) xs) ≤ largest_hole (parts_of p zs)

pub before-is : (p n : ℕ) (xs : List Extent) → HasBefore p n xs (hole_before n xs)
before-is p n [] = record { whole = λ w. w; on = λ r m u. u; back = λ r m u. u; hole = omega arith; holes = omega arith }
before-is p n (used k ∷ xs) = record { whole = λ w. w; on = λ r m u. u; back = λ r m u. u; hole = omega arith; holes = omega arith }
before-is p n (taken k ∷ xs) = record { whole = λ w. w; on = λ r m u. u; back = λ r m u. u; hole = omega arith; holes = omega arith }
before-is p n (free k ∷ xs) =
    let at : p + (n + k) ≡ p + n + k = omega arith in
    record {
      whole = λ w. w;
      on = λ r m u. (let P : ℕ → Type 0 = λ i. UsedAt i xs r m in subst P (sym at) u);
      back = λ r m u. (let P : ℕ → Type 0 = λ i. UsedAt i xs r m in subst P at u);
      hole = omega arith;
      holes = (let P : ℕ → Type 0 = λ i. max k (largest_hole (parts_of (p + n + k) xs)) ≤ max (n + k) (largest_hole (parts_of i xs)) in subst P (sym at) (omega arith));
    }

freed-by : (p m : ℕ) (xs zs : List Extent) (q n : ℕ) (here : Bool) → here ≡ (p == q) → 8 ≤ m → AreWhole xs → ((r k : ℕ) → UsedAt (p + m) xs r k → p + m ≤ r)
    → ((p ≡ q) × (m ≡ n)) ⊎ UsedAt (p + m) xs q n → (UsedAt (p + m) xs q n → HasFreed (p + m) xs zs q n)
    → HasFreed p (used m ∷ xs) (cond here (hole_before m xs) (used m ∷ zs)) q n
freed-by p m xs zs q n true is some whole ahead u more =
    let same : p ≡ q = eqb-true p q (sym is) in
    let h = before-is p m xs in
    let size : m ≡ n = elim u [ inl e ↦ e.1 | inr v ↦ (let a = ahead q n v in absurd (omega arith)) ] in
    let hole = h.hole in
    record {
      whole = h.whole whole;
      gone = λ k v. (let a = ahead q k (h.back q k v) in omega arith);
      on = λ r k v other. elim v [ inl e ↦ absurd (other (sym e.0 ∙ same)) | inr x ↦ h.on r k x ];
      back = λ r k v. inr (h.back r k v);
      hole = omega arith;
      holes = h.holes;
    }
freed-by p m xs zs q n false is some whole ahead u more =
    let other : p ≢ q = λ e. (let t : false ≡ true = is ∙ eq-eqb p q e in cc) in
    let v : UsedAt (p + m) xs q n = elim u [ inl e ↦ absurd (other e.0) | inr v ↦ v ] in
    let h = more v in
    record {
      whole = h.whole;
      gone = λ k w. elim w [ inl e ↦ other e.0 | inr x ↦ h.gone k x ];
      on = λ r k w apart. elim w [ inl e ↦ inl e | inr x ↦ inr (h.on r k x apart) ];
      back = λ r k w. elim w [ inl e ↦ inl e | inr x ↦ inr (h.back r k x) ];
      hole = h.hole;
      holes = h.holes;
    }

pub free-extents : (sizes : List SegmentSize) (b : List ℕ) (p f : ℕ) (xs : List Extent) (q n : ℕ) → Fill sizes b p f xs → AreWhole xs → UsedAt p xs q n → HasFreed p xs (after_give q p xs) q n
free-extents sizes b p f [] q n h w u = absurd u
free-extents sizes b p f (taken m ∷ xs) q n h w u = absurd w
free-extents sizes b p f (free m ∷ xs) q n h w u =
    let r = free-extents sizes b (p + m) _ xs q n h.2 w u in
    let k = before-is p m (after_give q (p + m) xs) in
    let hole = r.hole in
    let holes = r.holes in
    let most = k.holes in
    let own = k.hole in
    record {
      whole = k.whole r.whole;
      gone = λ i v. r.gone i (k.back q i v);
      on = λ i j v other. k.on i j (r.on i j v other);
      back = λ i j v. r.back i j (k.back i j v);
      hole = omega arith;
      holes = omega arith;
    }
free-extents sizes b p f (used m ∷ xs) q n h w u =
    freed-by p m xs (after_give q (p + m) xs) q n (p == q) refl h.1.some w (λ r k v. used-ahead (p + m) xs r k v) u (free-extents sizes b (p + m) _ xs q n h.2 w)

-- no hole is longer than the block
pub largest-within : (sizes : List SegmentSize) (b : List ℕ) (p f : ℕ) (xs : List Extent) → Fill sizes b p f xs → largest_hole (parts_of p xs) ≤ length b
largest-within sizes b p f [] h = omega arith
largest-within sizes b p f (free m ∷ xs) h = let r = largest-within sizes b (p + m) _ xs h.2 in let w = fill-within sizes b (p + m) _ xs h.2 in omega arith
largest-within sizes b p f (used m ∷ xs) h = largest-within sizes b (p + m) _ xs h.2
largest-within sizes b p f (taken m ∷ xs) h = largest-within sizes b (p + m) _ xs h.3

-- A segment of n bytes of a block was freed; all others are as they were.
pub record IsFreeIn (sizes : List SegmentSize) (b b' : List ℕ) (q n : ℕ) : Type 0 where
  pub extents : List Extent
  pub divides : IsDivided sizes b' extents
  pub whole : AreWhole extents
  pub gone : segment_in sizes b' q ≡ None
  pub others : (p : ℕ) → p ≢ q → segment_in sizes b' p ≡ segment_in sizes b p
  pub kind : slice_index b' 2 ≡ slice_index b 2
  pub unused : AgreeOn 3 5 b b'
  pub hole : n ≤ largest_hole (parts_in sizes b')
  pub holes : largest_hole (parts_in sizes b) ≤ largest_hole (parts_in sizes b')
  pub most : largest_hole (parts_in sizes b') ≤ length b'
  pub free_bytes : left.free_bytes (parts_in sizes b) ≤ left.free_bytes (parts_in sizes b')

pub free-edits : (sizes : List SegmentSize) (b b' : List ℕ) (xs : List Extent) (q n : ℕ) → IsDivided sizes b xs → AreWhole xs → UsedAt 8 xs q n → IsGiven sizes q n b b' → IsFreeIn sizes b b' q n
free-edits sizes b b' xs q n h w u t =
    let zs : List Extent = after_give q 8 xs in
    let x = free-extents sizes b 8 _ xs q n h w u in
    let divides : IsDivided sizes b' zs = t.after xs h (inl u) in
    let before = parts-divided sizes b xs h w in
    let after = parts-divided sizes b' zs divides x.whole in
    record {
      extents = zs;
      divides = divides;
      whole = x.whole;
      gone = segment-none sizes b' zs divides x.whole q x.gone;
      others = λ p other. segment-same sizes b b' xs zs h divides w x.whole p (λ m v. (x.on p m v other, t.others xs p m h (inl u) v other)) (λ m v. x.back p m v);
      kind = sym (t.head 2 (omega arith) (omega arith));
      unused = λ k l h. t.head k (omega arith) (omega arith);
      hole = rw after x.hole;
      holes = rw (before, after) x.holes;
      most = rw after (largest-within sizes b' 8 _ zs divides);
      free_bytes = (let one = free-divided sizes b xs h w in let two = free-divided sizes b' zs divides x.whole in let e = give-free q 8 xs in omega arith);
    }

none-by : (n p m : ℕ) (xs : List Extent) (big : Bool) → big ≡ nat_le n m → (hole_at n (p + m) xs ≡ None → largest_hole (parts_of (p + m) xs) < n) → cond big (Some p) (hole_at n (p + m) xs) ≡ None
    → max m (largest_hole (parts_of (p + m) xs)) < n
none-by n p m xs true is more none = absurd (cc)
none-by n p m xs false is more none = let low : m < n = leb-false n m (sym is) in let rest = more none in omega arith

-- where no hole of a size is found, all are smaller
pub none-large : (n p : ℕ) (xs : List Extent) → 0 < n → AreWhole xs → hole_at n p xs ≡ None → largest_hole (parts_of p xs) < n
none-large n p [] some w none = some
none-large n p (free m ∷ xs) some w none = none-by n p m xs (nat_le n m) refl (none-large n (p + m) xs some w) none
none-large n p (used m ∷ xs) some w none = none-large n (p + m) xs some w none
none-large n p (taken m ∷ xs) some w none = absurd w

-- the largest hole among the parts of extents is their largest free element
largest-parts : (p : ℕ) (xs : List Extent) → largest_hole (parts_of p xs) ≡ largest_free xs
largest-parts p [] = refl
largest-parts p (free m ∷ xs) = ap (max m) (largest-parts (p + m) xs)
largest-parts p (used m ∷ xs) = largest-parts (p + m) xs
largest-parts p (taken m ∷ xs) = largest-parts (p + m) xs

-- and that of a divided block is that of its extents
pub largest-divided : (sizes : List SegmentSize) (b : List ℕ) (x : HasExtents sizes b) → largest_hole (parts_in sizes b) ≡ largest_free x.extents
largest-divided sizes b x = ap largest_hole (parts-divided sizes b x.extents x.divides x.whole) ∙ largest-parts 8 x.extents
