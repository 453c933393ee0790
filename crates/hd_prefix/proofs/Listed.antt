-- The child types of a type are those that its list of children has.
use Rattle.std.proofs.Common.{◌≡◌, ℕ, zero, suc, ◌+◌, ◌-◌, ◌<◌, List, [], ◌∷◌, Bool, true, false, arith, ap, sym, ◌∙◌, refl, cond, Option, Some, None, inl, inr}
use Rattle.std.specs.Prelude.{slice_get, ◌==◌, ◌||◌, option_and_then}
use Rattle.std.specs.List.{list_any}
use Rattle.std.specs.Option.{option_map_or}
use Rattle.std.proofs.lemmas.Bool.{eq-eqb, ne_eqb, cases_eq}
use Rattle.hd_dbd.specs.Types.{SegmentType}
use Rattle.hd_dbd.specs.Hierarchy.{type_of}
use Rattle.hd_dbd.specs.Prefixes.{is_child_of, children_from, children_of}
use Rattle.hd_dbd.proofs.Levels.{type_of-zero, type_of-later}
use Rattle.hd_prefix.specs.Pointers.{is_child}

-- a list with one more code, if a test holds
one_more : (b : Bool) (k t : ℕ) (rest : List ℕ) → list_any (λ u. u == t) (cond b (k ∷ rest) rest) ≡ cond b ((k == t) || list_any (λ u. u == t) rest) (list_any (λ u. u == t) rest)
one_more true k t rest = refl
one_more false k t rest = refl

-- a code below those of the list
below_all : (c t k : ℕ) (ts : List SegmentType) → t < k → list_any (λ u. u == t) (children_from c k ts) ≡ false
below_all c t k [] low = refl
below_all c t k (s ∷ ss) low =
    one_more (is_child_of c s) k t (children_from c (k + 1) ss)
    ∙ by (is_child_of c s) (k == t) _ (ne_eqb k t (λ e. omega arith)) (below_all c t (k + 1) ss (omega arith))
  where
    by : (b e r : Bool) → e ≡ false → r ≡ false → cond b (e || r) r ≡ false
    by true e r f g = ap (λ (x : Bool). x || r) f ∙ g
    by false e r f g = g

-- a code is in the list where its type is a child
in_list : (c k j : ℕ) (ts : List SegmentType) → list_any (λ u. u == k + j) (children_from c k ts) ≡ option_map_or (is_child_of c) (slice_get ts j) false
in_list c k j [] = refl
in_list c k zero (s ∷ ss) =
    let same : k + 0 ≡ k = omega arith in
    one_more (is_child_of c s) k (k + 0) (children_from c (k + 1) ss)
    ∙ by (is_child_of c s) (k == k + 0) _ (eq-eqb k (k + 0) (sym same)) (below_all c (k + 0) (k + 1) ss (omega arith))
  where
    by : (b e r : Bool) → e ≡ true → r ≡ false → cond b (e || r) r ≡ b
    by true e r f g = ap (λ (x : Bool). x || r) f
    by false e r f g = g
in_list c k (suc j) (s ∷ ss) =
    let next : k + 1 + j ≡ k + suc j = omega arith in
    one_more (is_child_of c s) k (k + suc j) (children_from c (k + 1) ss)
    ∙ by (is_child_of c s) (k == k + suc j) _ (ne_eqb k (k + suc j) (λ e. omega arith))
    ∙ ap (λ (t : ℕ). list_any (λ u. u == t) (children_from c (k + 1) ss)) (sym next)
    ∙ in_list c (k + 1) j ss
  where
    by : (b e r : Bool) → e ≡ false → cond b (e || r) r ≡ r
    by true e r f = ap (λ (x : Bool). x || r) f
    by false e r f = refl

-- a type's parent, by the type
child_of_type : (c : ℕ) (o : Option SegmentType) → option_map_or (is_child_of c) o false ≡ option_map_or (λ p. p == c) (option_and_then (λ t. t.parent) o) false
child_of_type c None = refl
child_of_type c (Some s) = refl

pub children_listed : (types : List SegmentType) (c t : ℕ) → list_any (λ u. u == t) (children_of types c) ≡ is_child types c t
children_listed types c t = elim (cases_eq t 0) [
  | inl none ↦ below_all c t 1 types (omega arith) ∙ sym (ap (λ (o : Option SegmentType). option_map_or (λ p. p == c) (option_and_then (λ s. s.parent) o) false) (type_of-zero types t none))
  | inr some ↦ (
      let at : 1 + (t - 1) ≡ t = omega arith in
      ap (λ (u : ℕ). list_any (λ v. v == u) (children_of types c)) (sym at)
      ∙ in_list c 1 (t - 1) types
      ∙ ap (λ (o : Option SegmentType). option_map_or (is_child_of c) o false) (sym (type_of-later types t some))
      ∙ child_of_type c (type_of types t)
      )
]
