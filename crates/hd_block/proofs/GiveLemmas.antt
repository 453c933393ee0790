-- Room is given back, and joined to the holes beside it.
use Rattle.std.proofs.Common.{ne_eqb, ◌≡◌, ◌≢◌, ℕ, ◌+◌, ◌%◌, ◌<◌, ◌≤◌, ◌⊎◌, inl, inr, List, [], ◌∷◌, ◌++◌, length, refl, sym, ap, ◌∙◌, arith, append_assoc, cond}
use Rattle.std.proofs.lemmas.Bool.{eq-eqb}
use Rattle.hd_bytes.specs.Ranges.{ChangesOnly}
use Rattle.hd_bytes.specs.Numbers.{number_at}
use Rattle.hd_bytes.proofs.NumberLemmas.{number-below, number-above}
use Rattle.hd_block.specs.Extents.{Extent, free, used, taken, IsHole, Fill, IsDivided}
use Rattle.hd_block.specs.Changes.{hole_before, after_give}
use Rattle.hd_block.specs.Found.{Way, IsLinked, IsBehind}
use Rattle.hd_block.specs.declared.gives.Link.{Link}
use Rattle.hd_block.specs.declared.gives.Behind.{Behind}
use Rattle.hd_block.proofs.Walk.{fill-within}
use Rattle.hd_block.proofs.Reroute.{Redirects, to, way-within, way-link, way-next, way-apart, reroute, fill-same}
use Rattle.hd_dbd.specs.declared.facts.SegmentSize.{SegmentSize}

-- ---- the hole behind

-- where the next free element is not at a place, no hole begins there
pub none-behind : (sizes : List SegmentSize) (b : List ℕ) (place next : ℕ) (xs : List Extent) (behind : Behind) → 0 < place → Fill sizes b place next xs → place ≢ next → behind.more ≡ 0 → behind.next ≡ next
    → IsBehind sizes b place xs behind
none-behind sizes b place next xs behind some h other more same =
    let at : place + behind.more ≡ place = omega arith in
    record {
      rest = xs;
      joined = λ n. let e : n + behind.more ≡ n = omega arith in rw e (stays n xs h);
      fill = rw (at, same) h;
      whole = rw more refl;
      apart = λ u. other (sym at ∙ sym u ∙ same);
    }
  where
    stays : (n : ℕ) (ys : List Extent) → Fill sizes b place next ys → hole_before n ys ≡ free n ∷ ys
    stays n [] f = refl
    stays n (free m ∷ ys) f = absurd (other f.0)
    stays n (used m ∷ ys) f = refl
    stays n (taken m ∷ ys) f = refl

-- where it is, a hole begins there, which fits in the block
pub some-behind : (sizes : List SegmentSize) (b : List ℕ) (place next : ℕ) (xs : List Extent) (behind : Behind) → 0 < place → Fill sizes b place next xs → place ≡ next
    → behind.more ≡ number_at 2 b (place + 2) → behind.next ≡ number_at 2 b place → IsBehind sizes b place xs behind × (8 ≤ behind.more) × (place + behind.more ≤ length b)
some-behind sizes b place next [] behind some h e more on = absurd (omega arith)
some-behind sizes b place next (used m ∷ xs) behind some h e more on = absurd (h.0 e)
some-behind sizes b place next (taken m ∷ xs) behind some h e more on = absurd (h.0 e)
some-behind sizes b place next (free m ∷ xs) behind some h e more on =
    let same : behind.more ≡ m = more ∙ h.1.element.len in
    let large = h.1.element.some in
    let within = fill-within sizes b (place + m) (number_at 2 b place) xs h.2 in (
      record {
        rest = xs;
        joined = λ n. rw same refl;
        fill = rw (same, on) h.2;
        whole = rw same h.1.element.whole;
        apart = λ u. h.1.apart (sym on ∙ u ∙ ap (λ (z : ℕ). place + z) same);
      },
      omega arith,
      omega arith,
    )

-- ---- the extents

-- what is given back becomes a hole
give-here : (place n : ℕ) (extent : Extent) (xs : List Extent) → (extent ≡ used n) ⊎ (extent ≡ taken n) → after_give place place (extent ∷ xs) ≡ hole_before n xs
give-here place n extent xs (inl e) = ap (λ z. after_give place place (z ∷ xs)) e ∙ ap (λ t. cond t (hole_before n xs) (used n ∷ after_give place (place + n) xs)) (eq-eqb place place refl)
give-here place n extent xs (inr e) = ap (λ z. after_give place place (z ∷ xs)) e ∙ ap (λ t. cond t (hole_before n xs) (taken n ∷ after_give place (place + n) xs)) (eq-eqb place place refl)

-- a hole on the way is not joined to what follows it
hole-stays : (sizes : List SegmentSize) (b : List ℕ) (p n : ℕ) (xs zs : List Extent) (q g m : ℕ) → 8 ≤ p → IsHole b p n → Way sizes b (p + n) (number_at 2 b p) p xs q g m
    → (8 ≤ m → m + number_at 2 b (m + 2) ≢ q) → hole_before n (xs ++ zs) ≡ free n ∷ (xs ++ zs)
hole-stays sizes b p n [] zs q g m l e w apart =
    let len : p + number_at 2 b (p + 2) ≡ p + n = ap (λ (z : ℕ). p + z) e.element.len in
    let at : m + number_at 2 b (m + 2) ≡ q = ap (λ (z : ℕ). z + number_at 2 b (z + 2)) (sym w.2) ∙ len ∙ w.0 in
    absurd (apart (omega arith) at)
hole-stays sizes b p n (free k ∷ xs) zs q g m l e w apart = absurd (e.apart (sym w.0))
hole-stays sizes b p n (used k ∷ xs) zs q g m l e w apart = refl
hole-stays sizes b p n (taken k ∷ xs) zs q g m l e w apart = refl

-- what is given back behind a way leaves the extents on the way
give-way : (sizes : List SegmentSize) (b : List ℕ) (p f l : ℕ) (xs ys zs : List Extent) (q g m place : ℕ) → l + 8 ≤ p → Way sizes b p f l xs q g m → q ≤ place
    → (8 ≤ m → m + number_at 2 b (m + 2) ≢ q) → after_give place q ys ≡ zs → after_give place p (xs ++ ys) ≡ xs ++ zs
give-way sizes b p f l [] ys zs q g m place h w o apart e = rw w.0 e
give-way sizes b p f l (free n ∷ xs) ys zs q g m place h w o apart e =
    let some = w.1.element.some in
    ap (hole_before n) (give-way sizes b (p + n) (number_at 2 b p) p xs ys zs q g m place (omega arith) w.2 o apart e)
    ∙ hole-stays sizes b p n xs zs q g m (omega arith) w.1 w.2 apart
give-way sizes b p f l (used n ∷ xs) ys zs q g m place h w o apart e =
    let some = w.1.some in
    let in_way = way-within sizes b (p + n) f l xs q g m (omega arith) w.2 in
    ap (λ t. cond t (hole_before n (xs ++ ys)) (used n ∷ after_give place (p + n) (xs ++ ys))) (ne_eqb p place (λ u. omega arith))
    ∙ ap (λ (z : List Extent). used n ∷ z) (give-way sizes b (p + n) f l xs ys zs q g m place (omega arith) w.2 o apart e)
give-way sizes b p f l (taken n ∷ xs) ys zs q g m place h w o apart e =
    let in_way = way-within sizes b (p + n) f l xs q g m (omega arith) w.3 in
    ap (λ t. cond t (hole_before n (xs ++ ys)) (taken n ∷ after_give place (p + n) (xs ++ ys))) (ne_eqb p place (λ u. omega arith))
    ∙ ap (λ (z : List Extent). taken n ∷ z) (give-way sizes b (p + n) f l xs ys zs q g m place (omega arith) w.3 o apart e)

-- ---- a hole of its own

-- no free element ends where the room begins: it becomes one, by the two writes that do it
pub gives-own : {sizes : List SegmentSize} {b : List ℕ} {xs : List Extent} {offset n : ℕ} {link : Link} {behind : Behind} {b1 b2 : List ℕ} (s : IsLinked sizes b xs offset n link)
    → IsBehind sizes b (offset + n) s.behind behind → (8 ≤ link.link → link.link + number_at 2 b (link.link + 2) ≢ offset) → 8 ≤ n → n % 8 ≡ 0
    → ChangesOnly offset 8 b b1 → ChangesOnly link.link 2 b1 b2
    → number_at 2 b1 offset ≡ behind.next → number_at 2 b1 (offset + 2) ≡ n + behind.more → number_at 4 b1 (offset + 4) ≡ 0 → number_at 2 b2 link.link ≡ offset
    → IsDivided sizes b2 (after_give offset 8 xs)
gives-own {sizes} {b} {xs} {offset} {n} {link} {behind} {b1} {b2} s t apart some even c1 c2 n1 n2 n3 n4 =
    let m : ℕ = link.link in
    let total : ℕ = n + behind.more in
    let whole_more = t.whole in
    let in_way = way-within sizes b 8 (number_at 2 b 0) 0 s.before offset link.next m (omega arith) s.way in
    let next : number_at 2 b2 offset ≡ behind.next =
    number-above 2 offset c2 (omega arith) ∙ n1 in
    let sum : offset + total ≡ offset + n + behind.more = omega arith in
    let r : Redirects b b2 m offset = record {
      len = c2.len ∙ c1.len;
      below = λ k h i. c2.below k i ∙ c1.below k (omega arith);
      above = λ k h i. c2.above k i ∙ c1.below k (omega arith);
    } in
    let element : IsHole b2 offset total = record {
      element = record {
        len = number-above 2 (offset + 2) c2 (omega arith) ∙ n2;
        task = number-above 4 (offset + 4) c2 (omega arith) ∙ n3;
        some = omega arith;
        whole = omega arith;
      };
      apart = λ u. t.apart (sym next ∙ u ∙ sum);
    } in
    let rest : Fill sizes b2 (offset + n + behind.more) behind.next t.rest =
    fill-same sizes b b2 (offset + n + behind.more) behind.next t.rest r.len (λ k l. c2.above k (omega arith) ∙ c1.above k (omega arith)) t.fill in
    let rest' : Fill sizes b2 (offset + total) (number_at 2 b2 offset) t.rest = rw (next, sum) rest in
    let parts : after_give offset 8 xs ≡ s.before ++ free total ∷ t.rest =
    ap (after_give offset 8) s.whole ∙ give-way sizes b 8 (number_at 2 b 0) 0 s.before (s.extent ∷ s.behind) (free total ∷ t.rest) offset link.next m offset (omega arith) s.way (omega arith) apart
    (give-here offset n s.extent s.behind s.is ∙ t.joined n) in
    rw parts (reroute sizes b b2 8 (number_at 2 b 0) 0 s.before (free total ∷ t.rest) offset link.next m s.way refl (omega arith) r (to n4 apart) (sym n4, element, rest'))

-- ---- a longer hole

-- a way that ends with the free element that the number stands in
pub record EndsFree (sizes : List SegmentSize) (b : List ℕ) (p f l : ℕ) (xs : List Extent) (m : ℕ) : Type 0 where
  pub front : List Extent
  pub size : ℕ
  pub link : ℕ
  pub is : xs ≡ front ++ free size ∷ []
  pub way : Way sizes b p f l front m m link
  pub hole : IsHole b m size

-- a way that leads nowhere has no extents
way-empty : (sizes : List SegmentSize) (b : List ℕ) (p f l : ℕ) (xs : List Extent) (q g m : ℕ) → l + 8 ≤ p → Way sizes b p f l xs q g m → q ≤ p → xs ≡ []
way-empty sizes b p f l [] q g m h w o = refl
way-empty sizes b p f l (free n ∷ xs) q g m h w o =
    let some = w.1.element.some in let r = way-within sizes b (p + n) (number_at 2 b p) p xs q g m (omega arith) w.2 in absurd (omega arith)
way-empty sizes b p f l (used n ∷ xs) q g m h w o =
    let some = w.1.some in let r = way-within sizes b (p + n) f l xs q g m (omega arith) w.2 in absurd (omega arith)
way-empty sizes b p f l (taken n ∷ xs) q g m h w o =
    let r = way-within sizes b (p + n) f l xs q g m (omega arith) w.3 in absurd (omega arith)

-- where the element that the number stands in ends at the end of a way, it is the last on it
way-last : (sizes : List SegmentSize) (b : List ℕ) (p f l : ℕ) (xs : List Extent) (q g m : ℕ) → l + 8 ≤ p → Way sizes b p f l xs q g m → p ≤ m → m + number_at 2 b (m + 2) ≡ q
    → EndsFree sizes b p f l xs m
way-last sizes b p f l [] q g m h w o e = absurd (omega arith)
way-last sizes b p f l (free n ∷ xs) q g m h w o e =
    let some = w.1.element.some in
    let len = w.1.element.len in
    elim (way-link sizes b (p + n) (number_at 2 b p) p xs q g m w.2) [
      | inl d ↦
          let end : p + n ≡ q = ap (λ (z : ℕ). p + z) (sym len) ∙ ap (λ (z : ℕ). z + number_at 2 b (z + 2)) (sym d) ∙ e in
          let none = way-empty sizes b (p + n) (number_at 2 b p) p xs q g m (omega arith) w.2 (omega arith) in
          record { front = []; size = n; link = l; is = ap (λ (z : List Extent). free n ∷ z) none; way = (sym d, sym w.0 ∙ sym d, refl); hole = rw d w.1 }
      | inr v ↦
          let r = way-last sizes b (p + n) (number_at 2 b p) p xs q g m (omega arith) w.2 v e in
          record { front = free n ∷ r.front; size = r.size; link = r.link; is = ap (λ (z : List Extent). free n ∷ z) r.is; way = (w.0, w.1, r.way); hole = r.hole }
    ]
way-last sizes b p f l (used n ∷ xs) q g m h w o e =
    let later : p + n ≤ m = elim (way-link sizes b (p + n) f l xs q g m w.2) [ inl d ↦ absurd (omega arith) | inr v ↦ v ] in
    let r = way-last sizes b (p + n) f l xs q g m (omega arith) w.2 later e in
    record { front = used n ∷ r.front; size = r.size; link = r.link; is = ap (λ (z : List Extent). used n ∷ z) r.is; way = (w.0, w.1, r.way); hole = r.hole }
way-last sizes b p f l (taken n ∷ xs) q g m h w o e =
    let later : p + n ≤ m = elim (way-link sizes b (p + n) f l xs q g m w.3) [ inl d ↦ absurd (omega arith) | inr v ↦ v ] in
    let r = way-last sizes b (p + n) f l xs q g m (omega arith) w.3 later e in
    record { front = taken n ∷ r.front; size = r.size; link = r.link; is = ap (λ (z : List Extent). taken n ∷ z) r.is; way = (w.0, w.1, w.2, r.way); hole = r.hole }

-- a free element ends where the room begins: it becomes longer, by the two writes that do it
pub gives-joined : {sizes : List SegmentSize} {b : List ℕ} {xs : List Extent} {offset n : ℕ} {link : Link} {behind : Behind} {b1 b2 : List ℕ} (s : IsLinked sizes b xs offset n link)
    → IsBehind sizes b (offset + n) s.behind behind → 8 ≤ link.link → link.link + number_at 2 b (link.link + 2) ≡ offset → n % 8 ≡ 0
    → ChangesOnly link.link 2 b b1 → ChangesOnly (link.link + 2) 2 b1 b2
    → number_at 2 b1 link.link ≡ behind.next → number_at 2 b2 (link.link + 2) ≡ number_at 2 b (link.link + 2) + (n + behind.more)
    → IsDivided sizes b2 (after_give offset 8 xs)
gives-joined {sizes} {b} {xs} {offset} {n} {link} {behind} {b1} {b2} s t low adjoins even c1 c2 n1 n2 =
    let m : ℕ = link.link in
    let e = way-last sizes b 8 (number_at 2 b 0) 0 s.before offset link.next m (omega arith) s.way low adjoins in
    let k : ℕ = e.size in
    let k_len : number_at 2 b (m + 2) ≡ k = e.hole.element.len in
    let k_some = e.hole.element.some in
    let k_whole = e.hole.element.whole in
    let total : ℕ = k + (n + behind.more) in
    let whole_more = t.whole in
    let in_way = way-within sizes b 8 (number_at 2 b 0) 0 e.front m m e.link (omega arith) e.way in
    let to_here = way-next sizes b 8 (number_at 2 b 0) 0 e.front m m e.link refl e.way in
    let apart : 8 ≤ e.link → e.link + number_at 2 b (e.link + 2) ≢ m =
    λ z. elim (way-apart sizes b 8 (number_at 2 b 0) 0 e.front m m e.link e.way) [ inl v ↦ absurd (omega arith) | inr v ↦ λ u. v (u ∙ sym to_here) ] in
    let next : number_at 2 b2 m ≡ behind.next = number-below 2 m c2 (omega arith) ∙ n1 in
    let to_kept : number_at 2 b2 e.link ≡ m = number-below 2 e.link c2 (omega arith) ∙ number-below 2 e.link c1 (omega arith) ∙ to_here in
    let sum : m + total ≡ offset + n + behind.more = omega arith in
    let r : Redirects b b2 e.link m = record {
      len = c2.len ∙ c1.len;
      below = λ i h j. c2.below i (omega arith) ∙ c1.below i (omega arith);
      above = λ i h j. c2.below i (omega arith) ∙ c1.below i (omega arith);
    } in
    let element : IsHole b2 m total = record {
      element = record {
        len = n2 ∙ ap (λ (z : ℕ). z + (n + behind.more)) k_len;
        task = number-above 4 (m + 4) c2 (omega arith) ∙ number-above 4 (m + 4) c1 (omega arith) ∙ e.hole.element.task;
        some = omega arith;
        whole = omega arith;
      };
      apart = λ u. t.apart (sym next ∙ u ∙ sum);
    } in
    let rest : Fill sizes b2 (offset + n + behind.more) behind.next t.rest =
    fill-same sizes b b2 (offset + n + behind.more) behind.next t.rest r.len (λ i l. c2.above i (omega arith) ∙ c1.above i (omega arith)) t.fill in
    let rest' : Fill sizes b2 (m + total) (number_at 2 b2 m) t.rest = rw (next, sum) rest in
    let here : offset ≡ m + k = omega arith in
    let own : after_give offset m (free k ∷ s.extent ∷ s.behind) ≡ free total ∷ t.rest =
    ap (λ (z : ℕ). hole_before k (after_give offset z (s.extent ∷ s.behind))) (sym here) ∙ ap (hole_before k) (give-here offset n s.extent s.behind s.is ∙ t.joined n) in
    let all : xs ≡ e.front ++ free k ∷ s.extent ∷ s.behind = s.whole ∙ ap (λ (z : List Extent). z ++ s.extent ∷ s.behind) e.is ∙ append_assoc e.front _ _ in
    let parts : after_give offset 8 xs ≡ e.front ++ free total ∷ t.rest =
    ap (after_give offset 8) all ∙ give-way sizes b 8 (number_at 2 b 0) 0 e.front (free k ∷ s.extent ∷ s.behind) (free total ∷ t.rest) m m e.link offset (omega arith) e.way (omega arith) apart own in
    rw parts (reroute sizes b b2 8 (number_at 2 b 0) 0 e.front (free total ∷ t.rest) m m e.link e.way refl (omega arith) r (to to_kept apart) (sym to_kept, element, rest'))
