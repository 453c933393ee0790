-- The child types of a well-formed list of types.
use Rattle.std.proofs.Common.{◌≡◌, ℕ, zero, suc, ◌+◌, ◌-◌, ◌<◌, List, [], ◌∷◌, length, Bool, true, false, arith, ap, sym, ◌∙◌, refl, subst, Option, Some, None, IsTrue, inl, inr}
use Rattle.std.specs.Prelude.{slice_get, ◌==◌, ◌⊎◌, is_none, nat_lt, ◌&&◌, option_and_then}
use Rattle.std.specs.List.{list_any}
use Rattle.std.specs.Option.{option_map_or}
use Rattle.std.proofs.lemmas.Bool.{and_parts, cases_eq, cases_Bool, eqb-true, eq-eqb, ne_eqb, or_cases, or_left, or_right, cond-true, cond-false, false≢true}
use Rattle.hd_dbd.specs.declared.hierarchy.FreeSpace.{FreeSpace}
use Rattle.hd_dbd.specs.Types.{SegmentType}
use Rattle.hd_dbd.specs.Segment.{Segment}
use Rattle.hd_dbd.specs.Hierarchy.{type_of, parent_of}
use Rattle.hd_dbd.specs.Prefixes.{is_child_of, children_from, children_of}
use Rattle.hd_dbd.specs.Rows.{row_fits}
use Rattle.hd_dbd.specs.DatabaseRules.{well_formed, parent_fits}
use Rattle.hd_dbd.proofs.Levels.{type_of-later, type_within}
use Rattle.hd_dbd.proofs.LevelLaw.{parents_earlier}
use Rattle.hd_dbd.proofs.TypeLengths.{row-type}
use Rattle.hd_dbd.proofs.Fitting.{IsEarlier, type_of-fits, types_fit}
use Rattle.hd_links.specs.Links.{child_types, is_child_type}

-- t stands in the list
abbrev pub is_in : List ℕ → ℕ → Bool
is_in ts t = list_any (λ u. u == t) ts

-- each of the numbers is above t
abbrev pub AllAbove : ℕ → List ℕ → Type 0
AllAbove t [] = Unit {0}
AllAbove t (u ∷ us) = (t < u) × AllAbove t us

abbrev pub Ascending : List ℕ → Type 0
Ascending [] = Unit {0}
Ascending (u ∷ us) = AllAbove u us × Ascending us

-- it is the first, or stands behind it
pub in_cases : (v t : ℕ) (ts : List ℕ) → is_in (v ∷ ts) t ≡ true → (v ≡ t) ⊎ (is_in ts t ≡ true)
in_cases v t ts h = elim (or_cases (v == t) (is_in ts t) h) [ inl e ↦ inl (eqb-true v t e) | inr e ↦ inr e ]

pub in_head : (v t : ℕ) (ts : List ℕ) → v ≡ t → is_in (v ∷ ts) t ≡ true
in_head v t ts e = or_left (v == t) (is_in ts t) (eq-eqb v t e)

pub in_tail : (v t : ℕ) (ts : List ℕ) → is_in ts t ≡ true → is_in (v ∷ ts) t ≡ true
in_tail v t ts e = or_right (v == t) (is_in ts t) e

pub above_in : (c t : ℕ) (ts : List ℕ) → AllAbove c ts → is_in ts t ≡ true → c < t
above_in c t [] a h = absurd (false≢true h)
above_in c t (u ∷ us) a h = elim (in_cases u t us h) [
  | inl e ↦ subst (λ x. c < x) e a.0
  | inr s ↦ above_in c t us a.1 s
]

-- ---- the children in a list of types

children_above : (c p k : ℕ) (ts : List SegmentType) → c < k → AllAbove c (children_from p k ts)
children_above c p k [] l = tt
children_above c p k (t ∷ ts) l = elim (cases_Bool (is_child_of p t)) [
  | inl e ↦ subst (λ (x : List ℕ). AllAbove c x) (sym (cond-true (is_child_of p t) (k ∷ children_from p (k + 1) ts) (children_from p (k + 1) ts) e))
      (l, children_above c p (k + 1) ts (omega arith))
  | inr e ↦ subst (λ (x : List ℕ). AllAbove c x) (sym (cond-false (is_child_of p t) (k ∷ children_from p (k + 1) ts) (children_from p (k + 1) ts) e))
      (children_above c p (k + 1) ts (omega arith))
]

children_ascend : (p k : ℕ) (ts : List SegmentType) → Ascending (children_from p k ts)
children_ascend p k [] = tt
children_ascend p k (t ∷ ts) = elim (cases_Bool (is_child_of p t)) [
  | inl e ↦ subst Ascending (sym (cond-true (is_child_of p t) (k ∷ children_from p (k + 1) ts) (children_from p (k + 1) ts) e))
      (children_above k p (k + 1) ts (omega arith), children_ascend p (k + 1) ts)
  | inr e ↦ subst Ascending (sym (cond-false (is_child_of p t) (k ∷ children_from p (k + 1) ts) (children_from p (k + 1) ts) e))
      (children_ascend p (k + 1) ts)
]

-- the child types of a type ascend
pub types_ascend : (types : List SegmentType) (c : ℕ) → Ascending (child_types types c)
types_ascend types c = elim (cases_eq c 0) [
  | inl e ↦ subst Ascending (sym (cond-true (c == 0) (1 ∷ []) (children_of types c) (eq-eqb c 0 e))) (tt, tt)
  | inr ne ↦ subst Ascending (sym (cond-false (c == 0) (1 ∷ []) (children_of types c) (ne_eqb c 0 ne))) (children_ascend c 1 types)
]

-- and each has a code
pub types_some : (types : List SegmentType) (c : ℕ) → AllAbove 0 (child_types types c)
types_some types c = elim (cases_eq c 0) [
  | inl e ↦ subst (AllAbove 0) (sym (cond-true (c == 0) (1 ∷ []) (children_of types c) (eq-eqb c 0 e))) (omega arith, tt)
  | inr ne ↦ subst (AllAbove 0) (sym (cond-false (c == 0) (1 ∷ []) (children_of types c) (ne_eqb c 0 ne))) (children_above 0 c 1 types (omega arith))
]

-- a child in the list: its type
record Child (p k t : ℕ) (ts : List SegmentType) : Type 0 where
  place : ℕ
  type : SegmentType
  is : slice_get ts place ≡ Some type
  code : k + place ≡ t
  child : is_child_of p type ≡ true

child_at : (p k t : ℕ) (ts : List SegmentType) → is_in (children_from p k ts) t ≡ true → Child p k t ts
child_at p k t [] h = absurd (false≢true h)
child_at p k t (u ∷ us) h = elim (cases_Bool (is_child_of p u)) [
  | inl e ↦ elim (in_cases k t (children_from p (k + 1) us) (ap (λ (x : List ℕ). is_in x t) (sym (cond-true (is_child_of p u) (k ∷ children_from p (k + 1) us) (children_from p (k + 1) us) e)) ∙ h)) [
    | inl q ↦ record { place = 0; type = u; is = refl; code = omega arith; child = e }
    | inr q ↦ later (child_at p (k + 1) t us q)
  ]
  | inr e ↦ later (child_at p (k + 1) t us (ap (λ (x : List ℕ). is_in x t) (sym (cond-false (is_child_of p u) (k ∷ children_from p (k + 1) us) (children_from p (k + 1) us) e)) ∙ h))
]
  where
    later : Child p (k + 1) t us → Child p k t (u ∷ us)
    later C = record { place = suc C.place; type = C.type; is = C.is; code = (let e : k + 1 + C.place ≡ t = C.code in omega arith); child = C.child }

at_child : (p k i : ℕ) (ts : List SegmentType) (v : SegmentType) → slice_get ts i ≡ Some v → is_child_of p v ≡ true → is_in (children_from p k ts) (k + i) ≡ true
at_child p k i [] v h c = cc
at_child p k zero (u ∷ us) v h c =
    let same : u ≡ v = cc in
    ap (λ (x : List ℕ). is_in x (k + 0)) (cond-true (is_child_of p u) (k ∷ children_from p (k + 1) us) (children_from p (k + 1) us) (ap (is_child_of p) same ∙ c))
    ∙ in_head k (k + 0) (children_from p (k + 1) us) (omega arith)
at_child p k (suc i) (u ∷ us) v h c =
    let rest : is_in (children_from p (k + 1) us) (k + suc i) ≡ true
    = ap (is_in (children_from p (k + 1) us)) (omega arith) ∙ at_child p (k + 1) i us v h c in
    elim (cases_Bool (is_child_of p u)) [
      | inl e ↦ ap (λ (x : List ℕ). is_in x (k + suc i)) (cond-true (is_child_of p u) (k ∷ children_from p (k + 1) us) (children_from p (k + 1) us) e)
          ∙ in_tail k (k + suc i) (children_from p (k + 1) us) rest
      | inr e ↦ ap (λ (x : List ℕ). is_in x (k + suc i)) (cond-false (is_child_of p u) (k ∷ children_from p (k + 1) us) (children_from p (k + 1) us) e) ∙ rest
    ]

-- ---- child types and parents

-- the parent of the child types of a code
abbrev pub above : ℕ → Option ℕ
above zero = None
above (suc n) = Some (suc n)

pub above_some : (c : ℕ) → 0 < c → above c ≡ Some c
above_some zero l = absurd (omega arith)
above_some (suc n) l = refl

-- a type that fits is the root's type, or has a parent
roots_alone : (c : ℕ) (t : SegmentType) → parent_fits c t ≡ true → t.parent ≡ None → c ≡ 1
roots_alone c t fits none = elim (cases_eq c 1) [
  | inl e ↦ e
  | inr ne ↦ absurd (false≢true (ap (λ (o : Option ℕ). option_map_or (λ p. nat_lt 0 p && nat_lt p c) o false) (sym none)
      ∙ sym (cond-false (c == 1) (is_none t.parent) (option_map_or (λ p. nat_lt 0 p && nat_lt p c) t.parent false) (ne_eqb c 1 ne)) ∙ fits))
]

root_parent : (o : Option ℕ) → is_none o ≡ true → o ≡ None
root_parent None h = refl
root_parent (Some p) h = cc

child_parent : (p : ℕ) (o : Option ℕ) → option_map_or (λ q. q == p) o false ≡ true → o ≡ Some p
child_parent p None h = cc
child_parent p (Some q) h = ap (λ (n : ℕ). Some n) (eqb-true q p h)

-- a row that fits has a type
pub row_type : (types : List SegmentType) (r : Segment) → row_fits types r ≡ true → (t : SegmentType) × (type_of types r.code ≡ Some t)
row_type types r fits = let own = row-type types r fits in (own.type, own.is)

-- What a proof needs to know of the child types: which type's they are, and that they come later.
pub record Ordered (types : List SegmentType) : Type 0 where
  pub ascending : (c : ℕ) → Ascending (child_types types c)
  pub later : (c t : ℕ) → is_child_type types c t ≡ true → c < t
  pub parent : (c : ℕ) (r : Segment) → row_fits types r ≡ true → is_child_type types c r.code ≡ true → parent_of types r.code ≡ above c
  pub child : (c : ℕ) (r : Segment) → row_fits types r ≡ true → parent_of types r.code ≡ above c → is_child_type types c r.code ≡ true
  pub typed : (c t : ℕ) (u : SegmentType) → type_of types t ≡ Some u → parent_of types t ≡ above c → is_child_type types c t ≡ true

-- a row that fits has another code than the header
pub code_some : (types : List SegmentType) (r : Segment) → row_fits types r ≡ true → 0 < r.code
code_some types r fits = let t = row_type types r fits in (type_within types r.code t.0 t.1).0

module _ (block_size : ℕ) (frspc : FreeSpace) (types : List SegmentType) (formed : IsTrue (well_formed block_size frspc types)) where
  type_parent : (c : ℕ) (t : SegmentType) → type_of types c ≡ Some t → parent_fits c t ≡ true
  type_parent c t is =
      let all = and_parts _ _ (type_of-fits block_size types c t (types_fit block_size frspc types formed) is) in
      let to_sizes = and_parts _ _ all.0 in
      let to_names = and_parts _ _ to_sizes.0 in
      let to_root_key = and_parts _ _ to_names.0 in
      (and_parts _ _ (and_parts _ _ to_root_key.0).0).1

  parent_is : (c : ℕ) (t : SegmentType) → type_of types c ≡ Some t → parent_of types c ≡ t.parent
  parent_is c t is = ap (λ (o : Option SegmentType). option_and_then (λ (u : SegmentType). u.parent) o) is

  none_parent : (t : SegmentType) → type_of types 1 ≡ Some t → t.parent ≡ None
  none_parent t is = root_parent t.parent (type_parent 1 t is)

  -- the type of a child of another than the header
  child_type : (p t : ℕ) → is_in (children_of types p) t ≡ true → (u : SegmentType) × (type_of types t ≡ Some u) × (u.parent ≡ Some p)
  child_type p t h =
      let C : Child p 1 t types = child_at p 1 t types h in
      let e : 1 + C.place ≡ t = C.code in
      let i : t - 1 ≡ C.place = omega arith in (
        C.type,
        type_of-later types t (λ (z : t ≡ 0). omega arith) ∙ ap (slice_get types) i ∙ C.is,
        child_parent p C.type.parent C.child,
      )

  types_later : (c t : ℕ) → is_child_type types c t ≡ true → c < t
  types_later c t h = elim (cases_eq c 0) [
    | inl e ↦ (let one : is_in (1 ∷ []) t ≡ true = ap (λ (x : List ℕ). is_in x t) (sym (cond-true (c == 0) (1 ∷ []) (children_of types c) (eq-eqb c 0 e))) ∙ h in
        elim (in_cases 1 t [] one) [ inl q ↦ omega arith | inr q ↦ absurd (false≢true q) ])
    | inr ne ↦ (let K = child_type c t (ap (λ (x : List ℕ). is_in x t) (sym (cond-false (c == 0) (1 ∷ []) (children_of types c) (ne_eqb c 0 ne))) ∙ h) in
        let early : (0 < c) × (c < t) = subst (λ (o : Option ℕ). IsEarlier o t) K.2 (parents_earlier block_size frspc types t K.0 formed K.1) in
        early.1)
  ]

  types_parent : (c : ℕ) (r : Segment) → row_fits types r ≡ true → is_child_type types c r.code ≡ true → parent_of types r.code ≡ above c
  types_parent zero r fits h =
      let T = row_type types r fits in
      elim (in_cases 1 r.code [] h) [
        | inl q ↦ parent_is r.code T.0 T.1 ∙ none_parent T.0 (ap (type_of types) q ∙ T.1)
        | inr q ↦ absurd (false≢true q)
      ]
  types_parent (suc c) r fits h =
      let K = child_type (suc c) r.code (ap (λ (x : List ℕ). is_in x r.code) (sym (cond-false (suc c == 0) (1 ∷ []) (children_of types (suc c)) (ne_eqb (suc c) 0 (λ (e : suc c ≡ 0). omega arith)))) ∙ h) in
      parent_is r.code K.0 K.1 ∙ K.2

  typed_child : (c t : ℕ) (u : SegmentType) → type_of types t ≡ Some u → parent_of types t ≡ above c → is_child_type types c t ≡ true
  typed_child zero t u is p =
      let e : t ≡ 1 = roots_alone t u (type_parent t u is) (sym (parent_is t u is) ∙ p) in
      in_head 1 t [] (sym e)
  typed_child (suc c) t u is p =
      let some : 0 < t = (type_within types t u is).0 in
      let i : t ≡ 1 + (t - 1) = omega arith in
      let own : u.parent ≡ Some (suc c) = sym (parent_is t u is) ∙ p in
      ap (λ (x : List ℕ). is_in x t) (cond-false (suc c == 0) (1 ∷ []) (children_of types (suc c)) (ne_eqb (suc c) 0 (λ (e : suc c ≡ 0). omega arith)))
      ∙ ap (is_in (children_of types (suc c))) i
      ∙ at_child (suc c) 1 (t - 1) types u (type_within types t u is).1
      (ap (λ (o : Option ℕ). option_map_or (λ q. q == suc c) o false) own ∙ eq-eqb (suc c) (suc c) refl)

  types_child : (c : ℕ) (r : Segment) → row_fits types r ≡ true → parent_of types r.code ≡ above c → is_child_type types c r.code ≡ true
  types_child c r fits p = (let T = row_type types r fits in typed_child c r.code T.0 T.1 p)

  pub ordered : Ordered types
  ordered = record { ascending = types_ascend types; later = types_later; parent = types_parent; child = types_child; typed = typed_child }
