-- What SSAs ask of a row's path is asked of its rows one by one.
use Rattle.std.proofs.Common.{Bool, true, false, ◌≡◌, ℕ, ◌<◌, List, [], ◌∷◌, length, ap, ap₂, sym, ◌∙◌, refl, subst, inl, inr, Option, Some, None}
use Rattle.std.specs.Prelude.{◌==◌, ◌||◌, ◌&&◌, not}
use Rattle.std.specs.Option.{option_map_or}
use Rattle.std.specs.List.{list_all}
use Rattle.std.proofs.lemmas.Bool.{cases_Bool, ne_eqb, eq-eqb, eqb-true, false≢true, and_from, or_cases, or_left, or_right}
use Rattle.hd_dbd.specs.Types.{SegmentType}
use Rattle.hd_dbd.specs.Segment.{Segment}
use Rattle.hd_dbd.specs.Paths.{row_at, path_of}
use Rattle.hd_calls.specs.Ssas.{Head, Ssa, target_code}
use Rattle.hd_calls.specs.Satisfies.{meets, meets_on_path}
use Rattle.hd_calls.proofs.Resolving.{Resolved, resolved_call}
use Rattle.hd_calls.specs.Admits.{meets_own, all_admitted, is_on_way, AreOnWay, Descend, AreRowsOf}
use Rattle.hd_calls.specs.SearchSpans.{ResolvedSsasDescend, NamedRowsAreAdmitted}
use Rattle.hd_calls.proofs.OnPaths.{has, on_path_of, way_spans, spans_on, one_on_path}
use Rattle.hd_calls.proofs.SearchWays.{on_way_all}

-- ---- the types of SSAs

descended : (types : List _) (above : Option ℕ) (hs : List Head) (ssas : List Ssa) → Resolved types above hs ssas → Descend types above ssas
descended types above [] [] is = tt
descended types above [] (a ∷ ssas) is = absurd is
descended types above (h ∷ hs) [] is = tt
descended types above (h ∷ hs) (a ∷ ssas) is = (is.2, descended types (Some a.code) hs ssas is.3)

pub resolved_descend : ResolvedSsasDescend
resolved_descend s f texts ssas is = (let R = resolved_call s f texts ssas is in descended s.types None R.heads ssas R.resolved)

-- ---- two ways through a table

all_true : {X : Type 0} (xs : List X) → list_all (λ _. true) xs ≡ true
all_true [] = refl
all_true (x ∷ xs) = all_true xs

shuffle : (a b c d : Bool) → ((a && b) && (c && d)) ≡ ((a && c) && (b && d))
shuffle true true c d = refl
shuffle true false true d = refl
shuffle true false false d = refl
shuffle false b c d = refl

all_both : {X : Type 0} (p q : X → Bool) (xs : List X) → list_all (λ x. p x && q x) xs ≡ (list_all p xs && list_all q xs)
all_both p q [] = refl
all_both p q (x ∷ xs) = ap (λ b. (p x && q x) && b) (all_both p q xs) ∙ shuffle (p x) (q x) (list_all p xs) (list_all q xs)

swapped : {X Y : Type 0} (p : X → Y → Bool) (xs : List X) (ys : List Y) → list_all (λ x. list_all (λ y. p x y) ys) xs ≡ list_all (λ y. list_all (λ x. p x y) xs) ys
swapped p [] ys = sym (all_true ys)
swapped p (x ∷ xs) ys = ap (λ b. list_all (λ y. p x y) ys && b) (swapped p xs ys) ∙ sym (all_both (λ y. p x y) (λ y. list_all (λ x. p x y) xs) ys)

-- ---- one SSA along a path

-- of these rows only row k is of a type
abbrev OnlyOne : List Segment → ℕ → ℕ → List ℕ → Type 0
OnlyOne rows c k xs = (x : ℕ) → has x xs ≡ true → (row_at rows x).code ≡ c → x ≡ k

module _ (types : List SegmentType) (rows : List Segment) (a : Ssa) (k : ℕ) where
  own_is : (x : ℕ) → (row_at rows x).code ≡ a.code → x ≡ k → meets_own types rows x a ≡ meets types rows a k
  own_is x code same = ap (λ (b : Bool). not b || meets types rows a x) (eq-eqb a.code (row_at rows x).code (sym code)) ∙ ap (λ y. meets types rows a y) same

  other_is : (x : ℕ) → ((row_at rows x).code ≡ a.code → ⊥) → meets_own types rows x a ≡ true
  other_is x other = ap (λ (b : Bool). not b || meets types rows a x) (ne_eqb a.code (row_at rows x).code (λ e. other (sym e)))

  met : (xs : List ℕ) → OnlyOne rows a.code k xs → meets types rows a k ≡ true → list_all (λ x. meets_own types rows x a) xs ≡ true
  met [] only m = refl
  met (x ∷ xs) only m = and_from _ _ (elim (cases_Bool ((row_at rows x).code == a.code)) [
    | inl t ↦ (let code : (row_at rows x).code ≡ a.code = eqb-true (row_at rows x).code a.code t in
        own_is x code (only x (or_left (x == x) (has x xs) (eq-eqb x x refl)) code) ∙ m)
    | inr f ↦ other_is x (λ e. false≢true (sym f ∙ eq-eqb (row_at rows x).code a.code e))
  ]) (met xs (λ y on. only y (or_right (x == y) (has y xs) on)) m)

  unmet : (xs : List ℕ) → has k xs ≡ true → (row_at rows k).code ≡ a.code → meets types rows a k ≡ false → list_all (λ x. meets_own types rows x a) xs ≡ false
  unmet [] on code m = cc
  unmet (x ∷ xs) on code m = elim (or_cases (x == k) (has k xs) on) [
    | inl t ↦ (let same : x ≡ k = eqb-true x k t in
        ap (λ (b : Bool). b && list_all (λ x. meets_own types rows x a) xs) (own_is x (ap (λ y. (row_at rows y).code) same ∙ code) same ∙ m))
    | inr behind ↦ ap (λ (b : Bool). meets_own types rows x a && b) (unmet xs behind code m) ∙ no_more (meets_own types rows x a)
  ]
    where
      no_more : (b : Bool) → (b && false) ≡ false
      no_more true = refl
      no_more false = refl

  along : (xs : List ℕ) → OnlyOne rows a.code k xs → has k xs ≡ true → (row_at rows k).code ≡ a.code → list_all (λ x. meets_own types rows x a) xs ≡ meets types rows a k
  along xs only on code = elim (cases_Bool (meets types rows a k)) [
    | inl t ↦ met xs only t ∙ sym t
    | inr f ↦ unmet xs on code f ∙ sym f
  ]

module _ (types : List SegmentType) (rows : List Segment) (i : ℕ) (over : AreRowsOf types rows) (within : i < length rows) where
  each : (t : ℕ) → (row_at rows i).code ≡ t → (ssas : List Ssa) → AreOnWay types t ssas
      → list_all (λ a. meets_on_path types rows i a) ssas ≡ list_all (λ a. list_all (λ k. meets_own types rows k a) (path_of types rows i)) ssas
  each t e [] w = refl
  each t e (a ∷ ssas) w =
      (let way : is_on_way types (row_at rows i).code a.code ≡ true = subst (λ c. is_on_way types c a.code ≡ true) (sym e) w.0 in
      let K = way_spans types rows over i a.code within way in
      ap₂ (λ b c. b && c)
      (ap (λ (o : Option ℕ). option_map_or (λ k. meets types rows a k) o false) (on_path_of types rows a.code i K.0 within K.1.spans K.1.code)
      ∙ sym (along types rows a K.0 (path_of types rows i)
      (λ x on code. one_on_path types rows i x K.0 within on K.1.spans (code ∙ sym K.1.code))
      (spans_on types rows K.0 i within K.1.spans) K.1.code))
      (each t e ssas w.1))

same_when : (b : Bool) (x y : Bool) → (b ≡ true → x ≡ y) → (b && x) ≡ (b && y)
same_when true x y h = h refl
same_when false x y h = refl

pub named_admitted : NamedRowsAreAdmitted
named_admitted types rows ssas i search_ within =
    same_when ((row_at rows i).code == target_code ssas) (list_all (λ a. meets_on_path types rows i a) ssas) (all_admitted types rows ssas i)
    (λ t. each types rows i search_.over within (target_code ssas) (eqb-true (row_at rows i).code (target_code ssas) t) ssas (on_way_all types rows ssas search_)
    ∙ sym (swapped (λ k a. meets_own types rows k a) (path_of types rows i) ssas))
