-- Where the pointers to the child types of a type stand in its prefix.
use Rattle.std.proofs.Common.{◌≡◌, ℕ, zero, suc, ◌+◌, ◌-◌, ◌<◌, ◌≤◌, List, [], ◌∷◌, length, take, true, false, arith, ap, sym, ◌∙◌, refl, cond, subst, Option, Some, None, inl, inr}
use Rattle.std.specs.Prelude.{slice_get, ◌==◌, option_and_then, sum_by}
use Rattle.std.specs.Option.{option_map_or}
use Rattle.std.proofs.lemmas.Bool.{eqb-true, cond-true}
use Rattle.std.proofs.lemmas.Option.{slice_get_within, slice_get_cases, same_Some}
use Rattle.std.proofs.lemmas.List.Sums.{sum_by-cons, sum_by-take-le}
use Rattle.hd_dbd.specs.Types.{SegmentType}
use Rattle.hd_dbd.specs.Hierarchy.{type_of, parent_of}
use Rattle.hd_dbd.specs.Prefixes.{twin_part, child_part, child_parts, is_child_of, prefix_length, pointers_at}
use Rattle.hd_dbd.specs.DatabaseRules.{types_fit_from}
use Rattle.hd_dbd.proofs.Levels.{type_within, type_of-later}
use Rattle.hd_dbd.proofs.Fitting.{type_of-fits, IsEarlier, parent_part}
use Rattle.hd_prefix.specs.Pointers.{is_child}

-- what stands before an element, and it, are no more than what stands before a later one
sum_before : {X : Type 0} (f : X → ℕ) (xs : List X) (i n : ℕ) (x : X) → slice_get xs i ≡ Some x → i < n → sum_by f (take i xs) + f x ≤ sum_by f (take n xs)
sum_before f [] i n x is below = absurd (none_is x is)
  where
    none_is : {Y : Type 0} (y : Y) → None ≡ Some y → ⊥
    none_is y h = cc
sum_before f (y ∷ ys) i zero x is below = absurd (omega arith)
sum_before f (y ∷ ys) zero (suc n) x is below =
    let same : f y ≡ f x = ap f (same_Some y x is) in
    let all : sum_by f (take (suc n) (y ∷ ys)) ≡ f y + sum_by f (take n ys) = sum_by-cons f y (take n ys) in
    let none : sum_by f (take 0 (y ∷ ys)) ≡ 0 = refl in
    omega arith
sum_before f (y ∷ ys) (suc i) (suc n) x is below =
    let rest : sum_by f (take i ys) + f x ≤ sum_by f (take n ys) = sum_before f ys i n x is (omega arith) in
    let all : sum_by f (take (suc n) (y ∷ ys)) ≡ f y + sum_by f (take n ys) = sum_by-cons f y (take n ys) in
    let front : sum_by f (take (suc i) (y ∷ ys)) ≡ f y + sum_by f (take i ys) = sum_by-cons f y (take i ys) in
    omega arith

-- A child type of the type of code c: its own type, its parent's, and where its pointers stand.
pub record IsChild (types : List SegmentType) (c t : ℕ) : Type 0 where
  pub own : SegmentType
  pub parent : SegmentType
  pub is : type_of types t ≡ Some own
  pub of : type_of types c ≡ Some parent
  pub child : is_child_of c own ≡ true
  pub later : 1 < t
  pub at : pointers_at types t ≡ twin_part c parent + child_parts c (take (t - 1) types)

-- a child type is a type, and its parent is named
child_by : (c : ℕ) (o : Option SegmentType) → option_map_or (λ p. p == c) (option_and_then (λ t. t.parent) o) false ≡ true
    → (s : SegmentType) × (o ≡ Some s) × (is_child_of c s ≡ true)
child_by c None h = absurd (no h)
  where
    no : false ≡ true → ⊥
    no e = cc
child_by c (Some s) h = (s, refl, h)

parent_by : (c : ℕ) (o : Option ℕ) → option_map_or (λ p. p == c) o false ≡ true → o ≡ Some c
parent_by c None h = absurd (no h)
  where
    no : false ≡ true → ⊥
    no e = cc
parent_by c (Some p) h = ap Some (eqb-true p c h)

-- an earlier type is there
earlier_is : (types : List SegmentType) (c t : ℕ) (own : SegmentType) → type_of types t ≡ Some own → IsEarlier (Some c) t → (p : SegmentType) × (type_of types c ≡ Some p)
earlier_is types c t own is early =
    let within = type_within types t own is in
    let low : t - 1 < length types = slice_get_within types (t - 1) own within.1 in
    elim (slice_get_cases types (c - 1)).1 [
      | inl found ↦ (found.0, type_of-later types c (λ e. omega arith) ∙ found.2)
      | inr past ↦ absurd (let far = past.0 in let before = early.1 in omega arith)
    ]

pub child_is : (block_size : ℕ) (types : List SegmentType) (c t : ℕ) → types_fit_from block_size types 1 types ≡ true → is_child types c t ≡ true → IsChild types c t
child_is block_size types c t fit child =
    let found = child_by c (type_of types t) child in
    let named : parent_of types t ≡ Some c = parent_by c (parent_of types t) child in
    let own_named : found.0.parent ≡ Some c = parent_by c found.0.parent found.2 in
    let early : IsEarlier (Some c) t = subst (λ (o : Option ℕ). IsEarlier o t) own_named (parent_part block_size types t found.0 (type_of-fits block_size types t found.0 fit found.1)) in
    let above = earlier_is types c t found.0 found.1 early in
    record {
      own = found.0;
      parent = above.0;
      is = found.1;
      of = above.1;
      child = found.2;
      later = (let low = early.0 in let high = early.1 in omega arith);
      at =
          ap (λ (o : Option ℕ). option_map_or (λ p. option_map_or (λ s. twin_part p s) (type_of types p) 0 + child_parts p (take (t - 1) types)) o 0) named
          ∙ ap (λ (o : Option SegmentType). option_map_or (λ s. twin_part c s) o 0 + child_parts c (take (t - 1) types)) above.1;
    }

-- the length of a type's prefix
pub prefix_is : (types : List SegmentType) (c : ℕ) (p : SegmentType) → type_of types c ≡ Some p → prefix_length types c ≡ twin_part c p + child_parts c types
prefix_is types c p is = ap (λ (o : Option SegmentType). option_map_or (λ t. twin_part c t + child_parts c types) o 0) is

-- what a parent keeps for a child type
own_part : (c : ℕ) (s : SegmentType) → is_child_of c s ≡ true → cond (is_child_of c s) (child_part s) 0 ≡ child_part s
own_part c s child = cond-true (is_child_of c s) (child_part s) 0 child

-- the pointers to a child type end before those to a later one
pub child_before : (types : List SegmentType) (c t u : ℕ) (k : IsChild types c t) → IsChild types c u → t < u → pointers_at types t + child_part k.own ≤ pointers_at types u
child_before types c t u k l below =
    let within = type_within types t k.own k.is in
    let some = within.0 in
    let sum : child_parts c (take (t - 1) types) + cond (is_child_of c k.own) (child_part k.own) 0 ≤ child_parts c (take (u - 1) types) =
    sum_before (λ s. cond (is_child_of c s) (child_part s) 0) types (t - 1) (u - 1) k.own within.1 (omega arith) in
    let part = own_part c k.own k.child in
    let same : twin_part c k.parent ≡ twin_part c l.parent = ap (twin_part c) (same_Some k.parent l.parent (sym k.of ∙ l.of)) in
    sums _ _ _ _ _ _ _ _ k.at l.at sum part same
  where
    sums : (p q a b m n x y : ℕ) → p ≡ m + a → q ≡ n + b → a + x ≤ b → x ≡ y → m ≡ n → p + y ≤ q
    sums p q a b m n x y e f g h i = omega arith

-- and inside the prefix, behind the twin pointers
pub child_inside : (types : List SegmentType) (c t : ℕ) (k : IsChild types c t)
    → (twin_part c k.parent ≤ pointers_at types t) × (pointers_at types t + child_part k.own ≤ prefix_length types c)
child_inside types c t k =
    let within = type_within types t k.own k.is in
    let some = within.0 in
    let sum : child_parts c (take (t - 1) types) + cond (is_child_of c k.own) (child_part k.own) 0 ≤ child_parts c (take t types) =
    sum_before (λ s. cond (is_child_of c s) (child_part s) 0) types (t - 1) t k.own within.1 (omega arith) in
    let all : child_parts c (take t types) ≤ child_parts c types = sum_by-take-le (λ s. cond (is_child_of c s) (child_part s) 0) types t in
    let part = own_part c k.own k.child in
    sums _ _ _ _ _ _ _ _ k.at (prefix_is types c k.parent k.of) sum all part
  where
    sums : (p q a b d m x y : ℕ) → p ≡ m + a → q ≡ m + d → a + x ≤ b → b ≤ d → x ≡ y → (m ≤ p) × (p + y ≤ q)
    sums p q a b d m x y e f g h i = (omega arith, omega arith)
