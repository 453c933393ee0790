-- Steps by pointers, over lists of types and along paths.
use Rattle.std.proofs.Common.{◌≡◌, ℕ, zero, suc, ◌<◌, ◌≤◌, List, [], ◌∷◌, ◌++◌, true, arith, ap, sym, ◌∙◌, refl, subst, inl, inr, Some}
use Rattle.std.proofs.lemmas.Bool.{cases_eq, cases_lt, eq-eqb, ne_eqb, cond-true, cond-false, lt-ltb, le-ltb, false≢true}
use Rattle.hd_dbd.specs.Types.{SegmentType}
use Rattle.hd_dbd.specs.Forest.{Forest, empty, node, sequence}
use Rattle.hd_links.specs.Links.{Links, child_types, is_child_type}
use Rattle.hd_links.specs.Placed.{Placed, first_of, with_node, NodesLie}
use Rattle.hd_links.specs.Pointers.{IsTwinAfter, IsInChain}
use Rattle.hd_links.specs.Steps.{first_some, child_among, later_than, behind_child, behind_from, tip_from, LeadsDown}
use Rattle.hd_links.proofs.Types.{Ascending, AllAbove, above_in, is_in, in_cases, in_head, in_tail}
use Rattle.hd_links.proofs.Forms.{Formed, is_behind, low, follows_code}
use Rattle.hd_links.proofs.Build.{zero_or}
use Rattle.hd_links.proofs.Numbers.{head_at}

-- ---- the first that is not 0

pub some_zero : (x y : ℕ) → x ≡ 0 → first_some x y ≡ y
some_zero x y e = cond-true _ _ _ (eq-eqb x 0 e)

pub some_own : (x y : ℕ) → 0 < x → first_some x y ≡ x
some_own x y l = cond-false _ _ _ (ne_eqb x 0 (λ (e : x ≡ 0). omega arith))

pub some_both : (x y z : ℕ) → first_some x (first_some y z) ≡ first_some (first_some x y) z
some_both x y z = elim (zero_or x) [
  | inl e ↦ some_zero x (first_some y z) e ∙ ap (λ w. first_some w z) (sym (some_zero x y e))
  | inr l ↦ some_own x (first_some y z) l ∙ sym (some_own x z l) ∙ ap (λ w. first_some w z) (sym (some_own x y l))
]

-- the first of a table that is not 0, over some types
abbrev pub among : (ℕ → ℕ) → List ℕ → ℕ
among s [] = 0
among s (t ∷ ts) = first_some (s t) (among s ts)

pub among_same : (s s2 : ℕ → ℕ) (ts : List ℕ) → ((t : ℕ) → is_in ts t ≡ true → s t ≡ s2 t) → among s ts ≡ among s2 ts
among_same s s2 [] h = refl
among_same s s2 (t ∷ ts) h = ap (λ x. first_some x (among s ts)) (h t (in_head t t ts refl)) ∙ ap (first_some (s2 t)) (among_same s s2 ts (λ u q. h u (in_tail t u ts q)))

pub child_among_is : (m : Links) (h : ℕ) (ts : List ℕ) → child_among m h ts ≡ among (m.first_child h) ts
child_among_is m h [] = refl
child_among_is m h (t ∷ ts) = ap (first_some (m.first_child h t)) (child_among_is m h ts)

among_zero : (s : ℕ → ℕ) (ts : List ℕ) → ((t : ℕ) → s t ≡ 0) → among s ts ≡ 0
among_zero s [] h = refl
among_zero s (t ∷ ts) h = some_zero (s t) (among s ts) (h t) ∙ among_zero s ts h

-- the address of the first of some siblings
abbrev pub head_of : Forest Placed → ℕ
head_of empty = 0
head_of (node r k n) = r.address

abbrev pub HeadIn : List ℕ → Forest Placed → Type 0
HeadIn ts empty = Unit {0}
HeadIn ts (node r k n) = is_in ts r.segment.code ≡ true

-- the first of siblings, by their types in order
pub head_is : (types : List SegmentType) (m : Links) (c : ℕ) (b : ℕ → ℕ) (f : Forest Placed) (ts : List ℕ) → NodesLie types m b f → Formed types c f → Ascending ts
    → HeadIn ts f → head_of f ≡ among (first_of f) ts
head_is types m c b empty ts l h a w = sym (among_zero (first_of empty) ts (λ t. refl))
head_is types m c b (node r k n) [] l h a w = absurd (false≢true w)
head_is types m c b (node r k n) (t ∷ ts) l h a w = elim (cases_eq r.segment.code t) [
  | inl e ↦
      (let o : first_of (node r k n) t ≡ r.address = cond-true _ _ _ (eq-eqb r.segment.code t e) in
      sym (some_own (first_of (node r k n) t) (among (first_of (node r k n)) ts) (subst (λ x. 0 < x) (sym o) l.0.there.some) ∙ o))
  | inr ne ↦
      (let q : is_in ts r.segment.code ≡ true = elim (in_cases t r.segment.code ts w) [ inl e ↦ absurd (ne (sym e)) | inr q ↦ q ] in
      let lt : t < r.segment.code = above_in t r.segment.code ts a.0 q in
      let z : first_of (node r k n) t ≡ 0 = low types c r k n t h lt in
      head_is types m c b (node r k n) ts l h a.1 q
      ∙ sym (some_zero (first_of (node r k n) t) (among (first_of (node r k n)) ts) z))
]

pub later_own : (c : ℕ) (ts : List ℕ) → AllAbove c ts → later_than c ts ≡ ts
later_own c [] a = refl
later_own c (t ∷ ts) a = cond-true _ _ _ (lt-ltb c t a.0)

-- the later types are types, and later
pub later_in : (c : ℕ) (ts : List ℕ) → Ascending ts → (u : ℕ) → is_in (later_than c ts) u ≡ true → (c < u) × (is_in ts u ≡ true)
later_in c [] a u q = absurd (false≢true q)
later_in c (t ∷ ts) a u q = elim (cases_lt c t) [
  | inl l ↦ (elim (in_cases t u ts (subst (λ (x : List ℕ). is_in x u ≡ true) (cond-true _ _ _ (lt-ltb c t l)) q)) [
    | inl e ↦ (subst (λ x. c < x) e l, in_head t u ts e)
    | inr s ↦ ((let w : t < u = above_in t u ts a.0 s in omega arith), in_tail t u ts s)
  ])
  | inr l ↦ (let I : (c < u) × (is_in ts u ≡ true) = later_in c ts a.1 u (subst (λ (x : List ℕ). is_in x u ≡ true) (cond-false _ _ _ (le-ltb c t l)) q) in (I.0, in_tail t u ts I.1))
]

split_types : (s : ℕ → ℕ) (c : ℕ) (ts : List ℕ) → Ascending ts → is_in ts c ≡ true → ((t : ℕ) → t < c → s t ≡ 0) → among s ts ≡ first_some (s c) (among s (later_than c ts))
split_types s c [] a q h = absurd (false≢true q)
split_types s c (t ∷ ts) a q h = elim (in_cases t c ts q) [
  | inl e ↦ ap (λ x. first_some (s x) (among s ts)) e
      ∙ ap (λ (x : List ℕ). first_some (s c) (among s x)) (sym (later_own c ts (subst (λ x. AllAbove x ts) e a.0)) ∙ sym (cond-false _ _ _ (le-ltb c t (omega arith))))
  | inr w ↦
      (let lt : t < c = above_in t c ts a.0 w in
      some_zero (s t) (among s ts) (h t lt) ∙ split_types s c ts a.1 w h
      ∙ ap (λ (x : List ℕ). first_some (s c) (among s x)) (sym (cond-false _ _ _ (le-ltb c t (omega arith)))))
]

below_zero : (types : List SegmentType) (c : ℕ) (r : Placed) (n : Forest Placed) (t : ℕ) → Formed types c n → is_behind types (Some r.segment) n ≡ true → t < r.segment.code → first_of n t ≡ 0
below_zero types c r empty t h f l = refl
below_zero types c r (node s k n) t h f l = low types c s k n t h (let e : r.segment.code ≤ s.segment.code = follows_code types r s k n f in omega arith)

head_in : (types : List SegmentType) (c : ℕ) (f : Forest Placed) → Formed types c f → HeadIn (child_types types c) f
head_in types c empty h = tt
head_in types c (node r k n) h = h.0

-- the first of the children of a record
pub first_below : (types : List SegmentType) (m : Links) (asc : (c : ℕ) → Ascending (child_types types c)) (c h : ℕ) (b : ℕ → ℕ) (k : Forest Placed) → NodesLie types m b k → Formed types c k
    → ((t : ℕ) → is_child_type types c t ≡ true → m.first_child h t ≡ first_of k t) → child_among m h (child_types types c) ≡ head_of k
first_below types m asc c h b k l F e =
    child_among_is m h (child_types types c)
    ∙ among_same (m.first_child h) (first_of k) (child_types types c) e
    ∙ sym (head_is types m c b k (child_types types c) l F (asc c) (head_in types c k F))

-- what follows a node among its siblings
pub first_behind : (types : List SegmentType) (m : Links) (asc : (c : ℕ) → Ascending (child_types types c)) (c h : ℕ) (b : ℕ → ℕ) (r : Placed) (k n : Forest Placed)
    → NodesLie types m b (node r k n) → Formed types c (node r k n)
    → ((t : ℕ) → r.segment.code < t → is_child_type types c t ≡ true → first_of n t ≡ m.first_child h t)
    → first_some (m.forward r.address) (child_among m h (later_than r.segment.code (child_types types c))) ≡ head_of n
first_behind types m asc c h b r k n l F rest =
    ap (λ x. first_some x (child_among m h (later_than r.segment.code (child_types types c)))) l.0.forward
    ∙ ap (first_some (first_of n r.segment.code)) (child_among_is m h (later_than r.segment.code (child_types types c))
    ∙ among_same (m.first_child h) (first_of n) (later_than r.segment.code (child_types types c))
    (λ t q. (let w = later_in r.segment.code (child_types types c) (asc c) t q in sym (rest t w.0 w.1))))
    ∙ sym (split_types (first_of n) r.segment.code (child_types types c) (asc c) F.0 (λ t lt. below_zero types c r n t F.3 F.1 lt))
    ∙ sym (head_is types m c (with_node b r) n (child_types types c) l.2 F.3 (asc c) (head_in types c n F.3))

-- ---- along paths

pub tip_end : (h : ℕ) (xs : List ℕ) (a : ℕ) → tip_from h (xs ++ a ∷ []) ≡ a
tip_end h [] a = refl
tip_end h (x ∷ xs) a = tip_end x xs a

pub behind_end : (types : List SegmentType) (m : Links) (h rest : ℕ) (xs : List ℕ) (a : ℕ)
    → behind_from types m h rest (xs ++ a ∷ []) ≡ behind_child types m (tip_from h xs) (behind_from types m h rest xs) a
behind_end types m h rest [] a = refl
behind_end types m h rest (x ∷ xs) a = behind_end types m x (behind_child types m h rest x) xs a

pub leads_end : (types : List SegmentType) (m : Links) (h : ℕ) (xs : List ℕ) (a : ℕ) → LeadsDown types m h xs → is_child_type types (m.code (tip_from h xs)) (m.code a) ≡ true
    → IsInChain m (m.first_child (tip_from h xs) (m.code a)) a → LeadsDown types m h (xs ++ a ∷ [])
leads_end types m h [] a l t c = (t, c, tt)
leads_end types m h (x ∷ xs) a l t c = (l.0, l.1, leads_end types m x xs a l.2 t c)

-- one twin more
pub chain_more : (m : Links) (n p a : ℕ) → IsTwinAfter m n p a → 0 < m.forward a → IsTwinAfter m (suc n) p (m.forward a)
chain_more m zero p a w some = (w.0, (subst (λ x. 0 < m.forward x) (sym w.1) some, ap m.forward w.1))
chain_more m (suc n) p a w some = (w.0, chain_more m n (m.forward p) a w.1 some)

-- the head of a list that begins with siblings
pub head_both : (types : List SegmentType) (m : Links) (b : ℕ → ℕ) (f : Forest Placed) (xs : List Placed) → NodesLie types m b f → first_some (head_of f) (head_at xs) ≡ head_at (sequence f ++ xs)
head_both types m b empty xs s = some_zero 0 (head_at xs) refl
head_both types m b (node r k n) xs s = some_own r.address (head_at xs) s.0.there.some
