-- Nodes of one parent, cut in two.
use Rattle.std.proofs.Common.{◌≡◌, ℕ, ◌+◌, ◌<◌, ◌≤◌, List, ◌∷◌, ◌++◌, arith, ap, sym, ◌∙◌, refl, subst, cond, inl, inr}
use Rattle.std.specs.Prelude.{◌==◌, ◌⊎◌}
use Rattle.std.proofs.lemmas.Bool.{cases_eq, eq-eqb, ne_eqb, cond-true, cond-false}
use Rattle.std.proofs.lemmas.List.{append_assoc}
use Rattle.hd_dbd.specs.Types.{SegmentType}
use Rattle.hd_dbd.specs.Forest.{Forest, empty, node, sequence}
use Rattle.hd_links.specs.Links.{Links}
use Rattle.hd_links.specs.Placed.{Placed, count, first_of, with_node, with_nodes, NodesLie}
use Rattle.hd_links.proofs.Build.{zero_or, last_same}
use Rattle.hd_links.proofs.Counts.{is_at, one_at}

-- the first of these nodes and then those
abbrev pub join : Forest Placed → Forest Placed → Forest Placed
join empty g = g
join (node r k n) g = node r k (join n g)

-- each of the nodes has an address
abbrev pub AllPlaced : Forest Placed → Type 0
AllPlaced empty = Unit {0}
AllPlaced (node r k n) = (0 < r.address) × AllPlaced n

pub all_placed : (types : List SegmentType) (m : Links) (b : ℕ → ℕ) (f g : Forest Placed) → NodesLie types m b (join f g) → AllPlaced f
all_placed types m b empty g s = tt
all_placed types m b (node r k n) g s = (s.0.there.some, all_placed types m (with_node b r) n g s.2)

-- the second part stands behind the first
pub stands_right : (types : List SegmentType) (m : Links) (b : ℕ → ℕ) (f g : Forest Placed) → NodesLie types m b (join f g) → NodesLie types m (with_nodes b f) g
stands_right types m b empty g s = s
stands_right types m b (node r k n) g s = stands_right types m (with_node b r) n g s.2

pub placed_right : (types : List SegmentType) (m : Links) (b : ℕ → ℕ) (f : Forest Placed) → NodesLie types m b f → AllPlaced f
placed_right types m b empty s = tt
placed_right types m b (node r k n) s = (s.0.there.some, placed_right types m (with_node b r) n s.2)

-- the first that is not 0
abbrev pub pick : ℕ → ℕ → ℕ
pick x y = cond (x == 0) y x

pub pick_zero : (x y : ℕ) → x ≡ 0 → pick x y ≡ y
pick_zero x y e = cond-true _ _ _ (eq-eqb x 0 e)

pub pick_some : (x y : ℕ) → 0 < x → pick x y ≡ x
pick_some x y l = cond-false _ _ _ (ne_eqb x 0 (λ (e : x ≡ 0). omega arith))

pub count_join : (a : ℕ) (f g : Forest Placed) → count a (join f g) ≡ count a f + count a g
count_join a empty g = omega arith
count_join a (node r k n) g = (let e : count a (join n g) ≡ count a n + count a g = count_join a n g in omega arith)

pub sequence_join : (f g : Forest Placed) → sequence (join f g) ≡ sequence f ++ sequence g
sequence_join empty g = refl
sequence_join (node r k n) g =
    ap (λ (x : List Placed). r ∷ x) (ap (λ (x : List Placed). sequence k ++ x) (sequence_join n g) ∙ sym (append_assoc (sequence k) (sequence n) (sequence g)))

pub first_join : (f g : Forest Placed) (t : ℕ) → AllPlaced f → first_of (join f g) t ≡ pick (first_of f t) (first_of g t)
first_join empty g t p = refl
first_join (node r k n) g t p = elim (cases_eq r.segment.code t) [
  | inl e ↦
      (let own : first_of (node r k n) t ≡ r.address = cond-true _ _ _ (eq-eqb r.segment.code t e) in
      cond-true _ _ _ (eq-eqb r.segment.code t e) ∙ sym own ∙ sym (pick_some (first_of (node r k n) t) (first_of g t) (subst (λ x. 0 < x) (sym own) p.0)))
  | inr ne ↦ cond-false _ _ _ (ne_eqb r.segment.code t ne) ∙ first_join n g t p.1
      ∙ ap (λ x. pick x (first_of g t)) (sym (cond-false _ _ _ (ne_eqb r.segment.code t ne)))
]

pub last_join : (b : ℕ → ℕ) (f g : Forest Placed) (t : ℕ) → with_nodes b (join f g) t ≡ with_nodes (with_nodes b f) g t
last_join b empty g t = refl
last_join b (node r k n) g t = last_join (with_node b r) n g t

-- the last of no nodes
pub last_none : (b : ℕ → ℕ) (f : Forest Placed) (t : ℕ) → AllPlaced f → first_of f t ≡ 0 → with_nodes b f t ≡ b t
last_none b empty t p e = refl
last_none b (node r k n) t p e = elim (cases_eq r.segment.code t) [
  | inl q ↦ absurd (let z : first_of (node r k n) t ≡ r.address = cond-true _ _ _ (eq-eqb r.segment.code t q) in let o : 0 < r.address = p.0 in omega arith)
  | inr ne ↦ last_none (with_node b r) n t p.1 (sym (cond-false _ _ _ (ne_eqb r.segment.code t ne)) ∙ e) ∙ cond-false _ _ _ (ne_eqb r.segment.code t ne)
]

-- the last of some nodes is none from before
pub last_some : (b b2 : ℕ → ℕ) (f : Forest Placed) (t : ℕ) → 0 < first_of f t → with_nodes b f t ≡ with_nodes b2 f t
last_some b b2 empty t p = absurd (omega arith)
last_some b b2 (node r k n) t p = elim (cases_eq r.segment.code t) [
  | inl e ↦ last_same (with_node b r) (with_node b2 r) t n (cond-true _ _ _ (eq-eqb r.segment.code t e) ∙ sym (cond-true _ _ _ (eq-eqb r.segment.code t e)))
  | inr ne ↦ last_some (with_node b r) (with_node b2 r) n t (subst (λ x. 0 < x) (cond-false _ _ _ (ne_eqb r.segment.code t ne)) p)
]

-- the first and the last of some nodes are among them
pub first_counts : (f : Forest Placed) (t : ℕ) → 0 < first_of f t → 0 < count (first_of f t) f
first_counts empty t p = absurd (omega arith)
first_counts (node r k n) t p =
    elim (cases_eq r.segment.code t) [
      | inl e ↦ (let z : first_of (node r k n) t ≡ r.address = cond-true _ _ _ (eq-eqb r.segment.code t e) in
          let o : is_at r.address (first_of (node r k n) t) ≡ 1 = one_at r.address (first_of (node r k n) t) (sym z) in omega arith)
      | inr ne ↦ (let z : first_of (node r k n) t ≡ first_of n t = cond-false _ _ _ (ne_eqb r.segment.code t ne) in
          subst (λ x. 0 < count x (node r k n)) (sym z)
          (let i : 0 < count (first_of n t) n = first_counts n t (subst (λ x. 0 < x) z p) in omega arith))
    ]

-- a is one of these nodes, and of the type
abbrev pub IsOne : ℕ → ℕ → Forest Placed → Type 0
IsOne t a empty = ⊥
IsOne t a (node r k n) = ((r.address ≡ a) × (r.segment.code ≡ t)) ⊎ IsOne t a n

pub one_counts : (t a : ℕ) (f : Forest Placed) → IsOne t a f → 0 < count a f
one_counts t a empty s = absurd s
one_counts t a (node r k n) (inl e) = (let o : is_at r.address a ≡ 1 = one_at r.address a e.0 in omega arith)
one_counts t a (node r k n) (inr s) = (let i : 0 < count a n = one_counts t a n s in omega arith)

pub first_one : (f : Forest Placed) (t : ℕ) → 0 < first_of f t → IsOne t (first_of f t) f
first_one empty t p = absurd (omega arith)
first_one (node r k n) t p = elim (cases_eq r.segment.code t) [
  | inl e ↦ inl (sym (cond-true _ _ _ (eq-eqb r.segment.code t e)), e)
  | inr ne ↦ (let z : first_of (node r k n) t ≡ first_of n t = cond-false _ _ _ (ne_eqb r.segment.code t ne) in
      inr (subst (λ x. IsOne t x n) (sym z) (first_one n t (subst (λ x. 0 < x) z p))))
]

pub last_one : (b : ℕ → ℕ) (f : Forest Placed) (t : ℕ) → 0 < first_of f t → AllPlaced f → IsOne t (with_nodes b f t) f
last_one b empty t p a = absurd (omega arith)
last_one b (node r k n) t p a = elim (zero_or (first_of n t)) [
  | inr q ↦ inr (last_one (with_node b r) n t q a.1)
  | inl z ↦ elim (cases_eq r.segment.code t) [
    | inl e ↦ inl (sym (last_none (with_node b r) n t a.1 z ∙ cond-true _ _ _ (eq-eqb r.segment.code t e)), e)
    | inr ne ↦ absurd (let q : first_of (node r k n) t ≡ first_of n t = cond-false _ _ _ (ne_eqb r.segment.code t ne) in omega arith)
  ]
]

-- a stands below none of these nodes
abbrev pub NotBelow : ℕ → Forest Placed → Type 0
NotBelow a empty = Unit {0}
NotBelow a (node r k n) = (count a k ≡ 0) × NotBelow a n

pub none_below : (a : ℕ) (f : Forest Placed) → count a f ≡ 0 → NotBelow a f
none_below a empty e = tt
none_below a (node r k n) e = ((omega arith), none_below a n (omega arith))

pub one_not_below : (t a : ℕ) (f : Forest Placed) → IsOne t a f → count a f ≤ 1 → NotBelow a f
one_not_below t a empty s o = tt
one_not_below t a (node r k n) (inl e) o = (let i : is_at r.address a ≡ 1 = one_at r.address a e.0 in ((omega arith), none_below a n (omega arith)))
one_not_below t a (node r k n) (inr s) o = (let i : 0 < count a n = one_counts t a n s in ((omega arith), one_not_below t a n s (omega arith)))

pub not_below_left : (a : ℕ) (f g : Forest Placed) → NotBelow a (join f g) → NotBelow a f
not_below_left a empty g h = tt
not_below_left a (node r k n) g h = (h.0, not_below_left a n g h.1)
