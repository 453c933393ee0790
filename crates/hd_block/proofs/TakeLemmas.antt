-- The front of a hole is taken.
use Rattle.std.proofs.Common.{ne_eqb, ◌≡◌, ◌≢◌, ℕ, ◌+◌, ◌-◌, ◌%◌, ◌<◌, ◌≤◌, inl, inr, List, ◌∷◌, ◌++◌, slice_index, refl, sym, ap, ◌∙◌, arith, cond}
use Rattle.std.proofs.lemmas.Bool.{le-leb, eq-eqb}
use Rattle.hd_bytes.specs.Ranges.{ChangesOnly}
use Rattle.hd_bytes.specs.Numbers.{number_at}
use Rattle.hd_bytes.proofs.NumberLemmas.{number-above}
use Rattle.hd_block.specs.Extents.{Extent, free, taken, IsHole, Fill, IsDivided}
use Rattle.hd_block.specs.Changes.{split_hole, after_take}
use Rattle.hd_block.specs.Found.{SeeksHole, Stands}
use Rattle.hd_block.proofs.Walk.{fill-ahead}
use Rattle.hd_block.proofs.Reroute.{Redirects, LeadsOn, ends, past, way-within, reroute, fill-same}
use Rattle.hd_dbd.specs.declared.facts.SegmentSize.{SegmentSize}

-- a hole of just the size is taken out of the chain
pub takes-whole : {sizes : List SegmentSize} {b : List ℕ} {xs : List Extent} {end g m n : ℕ} (size : ℕ) (b' : List ℕ) → Stands sizes b (SeeksHole size xs) xs end g m n → n ≡ size
    → ChangesOnly m 2 b b' → number_at 2 b' m ≡ number_at 2 b g → IsDivided sizes b' (after_take size xs)
takes-whole {sizes} {b} {xs} {end} {g} {m} {n} size b' s e c next =
    let some = s.hole.element.some in
    let even : size % 8 ≡ 0 = ap (λ (z : ℕ). z % 8) (sym e) ∙ s.hole.element.whole in
    let in_way = way-within sizes b 8 (number_at 2 b 0) 0 s.before g g m (omega arith) s.way in
    let r : Redirects b b' m g = record { len = c.len; below = λ k l h. c.below k h; above = λ k l h. c.above k h } in
    let later : LeadsOn b b' m g = elim (fill-ahead sizes b (g + n) (number_at 2 b g) s.behind s.fill) [ inl y ↦ ends (next ∙ y) | inr y ↦ past (omega arith) ] in
    let rest : Fill sizes b' (g + size) (number_at 2 b' m) s.behind = rw (next, sym e) (fill-same sizes b b' (g + n) (number_at 2 b g) s.behind c.len (λ k l. c.above k (omega arith)) s.fill) in
    let apart : g ≢ number_at 2 b' m = λ u. elim (fill-ahead sizes b (g + n) (number_at 2 b g) s.behind s.fill) [ inl y ↦ omega arith | inr y ↦ omega arith ] in
    let whole : after_take size xs ≡ s.before ++ taken size ∷ s.behind =
    s.keeps.1 ∙ ap (λ t. s.before ++ cond t (split_hole size n s.behind) (free n ∷ after_take size s.behind)) (le-leb size n (omega arith))
    ∙ ap (λ t. s.before ++ taken size ∷ cond t s.behind (free (n - size) ∷ s.behind)) (eq-eqb n size e) in
    rw whole (reroute sizes b b' 8 (number_at 2 b 0) 0 s.before (taken size ∷ s.behind) g g m s.way refl (omega arith) r later (apart, omega arith, even, rest))

-- the front of a larger hole is taken, and the rest stays free
takes-front : {sizes : List SegmentSize} {b : List ℕ} {xs : List Extent} {end g m n : ℕ} (size : ℕ) (b' : List ℕ) → Stands sizes b (SeeksHole size xs) xs end g m n → size + 8 ≤ n → 0 < size → size % 8 ≡ 0
    → Redirects b b' m g → ((k : ℕ) → g + n ≤ k → slice_index b' k ≡ slice_index b k)
    → number_at 2 b' m ≡ g + size → number_at 2 b' (g + size) ≡ number_at 2 b g → number_at 2 b' (g + size + 2) ≡ n - size → number_at 4 b' (g + size + 4) ≡ 0
    → IsDivided sizes b' (after_take size xs)
takes-front {sizes} {b} {xs} {end} {g} {m} {n} size b' s l some whole r same link next len task =
    let later : LeadsOn b b' m g = past (omega arith) in
    let apart = s.hole.apart in
    let even = s.hole.element.whole in
    let at : (g + size) + (n - size) ≡ g + n = omega arith in
    let element : IsHole b' (g + size) (n - size) = record {
      element = record {
        len = len;
        task = task;
        some = omega arith;
        whole = omega arith;
      };
      apart = λ u. apart (sym next ∙ u ∙ at);
    } in
    let rest : Fill sizes b' (g + n) (number_at 2 b' (g + size)) s.behind = rw next (fill-same sizes b b' (g + n) (number_at 2 b g) s.behind r.len same s.fill) in
    let rest' : Fill sizes b' (g + size + (n - size)) (number_at 2 b' (g + size)) s.behind = rw at rest in
    let parts : after_take size xs ≡ s.before ++ taken size ∷ free (n - size) ∷ s.behind =
    s.keeps.1 ∙ ap (λ t. s.before ++ cond t (split_hole size n s.behind) (free n ∷ after_take size s.behind)) (le-leb size n (omega arith))
    ∙ ap (λ t. s.before ++ taken size ∷ cond t s.behind (free (n - size) ∷ s.behind)) (ne_eqb n size (λ u. omega arith)) in
    rw parts (reroute sizes b b' 8 (number_at 2 b 0) 0 s.before (taken size ∷ free (n - size) ∷ s.behind) g g m s.way refl (omega arith) r later
    ((λ u. omega arith), omega arith, whole, rw link (refl, element, rest')))

-- what is left of a larger hole is room for an element
pub no-crumb : {n size : ℕ} → n % 8 ≡ 0 → size ≤ n → n ≢ size → size % 8 ≡ 0 → size + 8 ≤ n
no-crumb even l e h = omega arith

-- the same by the two writes that do it
pub takes-two : {sizes : List SegmentSize} {b : List ℕ} {xs : List Extent} {end g m n : ℕ} {b1 b2 : List ℕ} (size : ℕ) → Stands sizes b (SeeksHole size xs) xs end g m n → size + 8 ≤ n → 0 < size → size % 8 ≡ 0
    → ChangesOnly (g + size) 8 b b1 → ChangesOnly m 2 b1 b2
    → number_at 2 b1 (g + size) ≡ number_at 2 b g → number_at 2 b1 (g + size + 2) ≡ n - size → number_at 4 b1 (g + size + 4) ≡ 0 → number_at 2 b2 m ≡ g + size
    → IsDivided sizes b2 (after_take size xs)
takes-two {sizes} {b} {xs} {end} {g} {m} {n} {b1} {b2} size s l some whole c1 c2 n1 n2 n3 n4 =
    let in_way = way-within sizes b 8 (number_at 2 b 0) 0 s.before g g m (omega arith) s.way in
    let r : Redirects b b2 m g = record {
      len = c2.len ∙ c1.len;
      below = λ k h i. c2.below k i ∙ c1.below k (omega arith);
      above = λ k h i. c2.above k i ∙ c1.below k (omega arith);
    } in
    takes-front size b2 s l some whole r (λ k h. c2.above k (omega arith) ∙ c1.above k (omega arith))
    n4
    (number-above 2 (g + size) c2 (omega arith) ∙ n1)
    (number-above 2 (g + size + 2) c2 (omega arith) ∙ n2)
    (number-above 4 (g + size + 4) c2 (omega arith) ∙ n3)
