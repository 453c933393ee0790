-- The rows of a path by their levels.
use Rattle.std.proofs.Common.{Bool, true, false, ◌≡◌, ℕ, zero, suc, ◌+◌, ◌-◌, ◌<◌, ◌≤◌, List, [], ◌∷◌, ◌++◌, length, take, arith, ap, ap₂, sym, ◌∙◌, refl, subst, inl, inr, Option, Some, None}
use Rattle.std.specs.Prelude.{◌==◌, nat_le, nat_lt, cond, slice_get, filter_map}
use Rattle.std.specs.Option.{option_map_or}
use Rattle.std.specs.List.{cons_option}
use Rattle.std.proofs.lemmas.Bool.{cases_lt, eq-eqb, cond-true, and_parts, or_left, or_right, ltb-true, false≢true}
use Rattle.std.proofs.lemmas.List.{length-append}
use Rattle.hd_dbd.specs.Types.{SegmentType}
use Rattle.hd_dbd.specs.Hierarchy.{level_of}
use Rattle.hd_dbd.specs.Segment.{Segment}
use Rattle.hd_dbd.specs.Paths.{row_at, level_at, parent_row, path_of, end_of}
use Rattle.hd_dbd.proofs.RowPaths.{path_follows}
use Rattle.hd_calls.specs.Ssas.{Ssa, target_code, above_target}
use Rattle.hd_calls.specs.Satisfies.{on_path}
use Rattle.hd_calls.proofs.PathSpans.{spans_below}
use Rattle.hd_calls.specs.Admits.{is_on_way, AreOnWay, AreRowsOf}
use Rattle.hd_calls.specs.SearchLevels.{path_row, PathsAreByLevel, TypesAreByLevel, PathRowsAreByLevel}
use Rattle.hd_calls.proofs.OnPaths.{Spans, IsOnPath, IsStep, has, spans_parent, spans_step, spanned_level, on_path_is, on_path_of, way_spans, spans_way, level_below, level_top, some_level}
use Rattle.hd_calls.proofs.SearchWays.{on_way_all}

-- ---- places in lists

get_front : {A : Type 0} (xs ys : List A) (n : ℕ) → n < length xs → slice_get (xs ++ ys) n ≡ slice_get xs n
get_front [] ys n less = absurd (omega arith)
get_front (x ∷ xs) ys zero less = refl
get_front (x ∷ xs) ys (suc n) less = get_front xs ys n (omega arith)

get_last : {A : Type 0} (xs : List A) (y : A) (n : ℕ) → n ≡ length xs → slice_get (xs ++ y ∷ []) n ≡ Some y
get_last [] y n is = ap (λ k. slice_get (y ∷ []) k) is
get_last (x ∷ xs) y zero is = absurd (omega arith)
get_last (x ∷ xs) y (suc n) is = get_last xs y n (omega arith)

get_has : (xs : List ℕ) (n k : ℕ) → slice_get xs n ≡ Some k → has k xs ≡ true
get_has [] n k is = cc
get_has (x ∷ xs) zero k is = (let same : x ≡ k = cc in or_left (x == k) _ (eq-eqb x k same))
get_has (x ∷ xs) (suc n) k is = or_right (x == k) _ (get_has xs n k is)

-- ---- paths

module _ (types : List SegmentType) (rows : List Segment) (over : AreRowsOf types rows) where
  path_below : (i q : ℕ) → parent_row types rows i ≡ Some q → path_of types rows i ≡ path_of types rows q ++ i ∷ []
  path_below i q is = path_follows types rows i ∙ ap (λ (o : Option ℕ). option_map_or (λ p. path_of types rows p) o [] ++ i ∷ []) is

  path_top : (i : ℕ) → parent_row types rows i ≡ None → path_of types rows i ≡ i ∷ []
  path_top i is = path_follows types rows i ∙ ap (λ (o : Option ℕ). option_map_or (λ p. path_of types rows p) o [] ++ i ∷ []) is

  length_is : (n i : ℕ) → i < n → i < length rows → length (path_of types rows i) ≡ level_at types rows i
  length_is zero i few within = absurd (omega arith)
  length_is (suc n) i few within = by_parent (parent_row types rows i) refl (λ q a b. length_is n q a b)
    where
      by_parent : (o : Option ℕ) → parent_row types rows i ≡ o → ((q : ℕ) → q < n → q < length rows → length (path_of types rows q) ≡ level_at types rows q)
          → length (path_of types rows i) ≡ level_at types rows i
      by_parent None e more = ap (λ (xs : List ℕ). length xs) (path_top i e) ∙ sym (level_top types rows over i within e)
      by_parent (Some q) e more =
          let low : q < i = before q e in
          let up : level_at types rows i ≡ level_at types rows q + 1 = level_below types rows over i q within e in
          let I : length (path_of types rows q) ≡ level_at types rows q = more q (omega arith) (omega arith) in
          ap (λ (xs : List ℕ). length xs) (path_below i q e) ∙ length-append (path_of types rows q) (i ∷ []) ∙ omega arith
        where
          before : (q : ℕ) → parent_row types rows i ≡ Some q → q < i
          before q e = (let S : Spans types rows q i = spans_parent types rows q i within e in elim (cases_lt q i) [
            | inl w ↦ w
            | inr w ↦ (let from : q ≤ i = S.from in
                let same : level_at types rows q ≡ level_at types rows i = ap (level_at types rows) (let z : q ≡ i = omega arith in z) in
                let up : level_at types rows i ≡ level_at types rows q + 1 = level_below types rows over i q within e in absurd (omega arith))
          ])

  pub path_length : (i : ℕ) → i < length rows → length (path_of types rows i) ≡ level_at types rows i
  path_length i within = length_is (suc i) i (omega arith) within

  place_is : (n i k : ℕ) → i < n → i < length rows → Spans types rows k i → slice_get (path_of types rows i) (level_at types rows k - 1) ≡ Some k
  place_is zero i k few within s = absurd (omega arith)
  place_is (suc n) i k few within s = elim (cases_lt k i) [
    | inl below ↦
        (let S : IsStep types rows k i = spans_step types rows k i within below s in
        let less : S.parent < i = S.before in
        let qw : S.parent < length rows = omega arith in
        let high : level_at types rows k ≤ level_at types rows S.parent = spanned_level types rows k S.parent (omega (arith, s.from)) S.spans in
        let count : length (path_of types rows S.parent) ≡ level_at types rows S.parent = path_length S.parent qw in
        let some : 0 < level_at types rows k = some_level types rows over k (omega (arith, s.from)) in
        ap (λ (xs : List ℕ). slice_get xs (level_at types rows k - 1)) (path_below i S.parent S.is)
        ∙ get_front (path_of types rows S.parent) (i ∷ []) (level_at types rows k - 1) (omega arith)
        ∙ place_is n S.parent k (omega arith) qw S.spans)
    | inr here ↦
        (let same : k ≡ i = omega (arith, s.from) in
        subst (λ x. slice_get (path_of types rows i) (level_at types rows x - 1) ≡ Some x) (sym same) (own (parent_row types rows i) refl))
  ]
    where
      own : (o : Option ℕ) → parent_row types rows i ≡ o → slice_get (path_of types rows i) (level_at types rows i - 1) ≡ Some i
      own None e =
          (let top : level_at types rows i ≡ 1 = level_top types rows over i within e in
          ap (λ (xs : List ℕ). slice_get xs (level_at types rows i - 1)) (path_top i e) ∙ get_last [] i (level_at types rows i - 1) (omega arith))
      own (Some q) e =
          (let up : level_at types rows i ≡ level_at types rows q + 1 = level_below types rows over i q within e in
          let S : Spans types rows q i = spans_parent types rows q i within e in
          let count : length (path_of types rows q) ≡ level_at types rows q = path_length q (omega (arith, S.from)) in
          ap (λ (xs : List ℕ). slice_get xs (level_at types rows i - 1)) (path_below i q e) ∙ get_last (path_of types rows q) i (level_at types rows i - 1) (omega arith))

  -- a row that spans another is on its path, at its level
  pub path_at : (i k : ℕ) → i < length rows → Spans types rows k i → path_row types rows i (level_at types rows k) ≡ Some k
  path_at i k within s = place_is (suc i) i k (omega arith) within s

pub paths_by_level : PathsAreByLevel
paths_by_level types rows i over within = (
  path_length types rows over i within,
  λ k before. (
    λ inside. path_at types rows over i k within (record { from = before; to = inside }),
    λ on. (let both = and_parts (nat_le k i) (nat_lt i (end_of types rows k))
        (sym (spans_below types rows k i within) ∙ get_has (path_of types rows i) (level_at types rows k - 1) k on) in
        ltb-true i (end_of types rows k) both.1),
  ),
)

pub types_by_level : TypesAreByLevel
types_by_level types rows code i over within = by_way (is_on_way types (row_at rows i).code code) refl
  where
    by_way : (b : Bool) → is_on_way types (row_at rows i).code code ≡ b → on_path types rows code i ≡ cond b (path_row types rows i (level_of types code)) None
    by_way true way =
        (let K = way_spans types rows over i code within way in
        on_path_of types rows code i K.0 within K.1.spans K.1.code
        ∙ sym (path_at types rows over i K.0 within K.1.spans) ∙ ap (λ l. path_row types rows i l) (ap (level_of types) K.1.code))
    by_way false off = by_found (on_path types rows code i) refl
      where
        by_found : (o : Option ℕ) → on_path types rows code i ≡ o → o ≡ None
        by_found None e = refl
        by_found (Some k) e =
            (let on : IsOnPath types rows code i k = on_path_is types rows code i k within e in
            absurd (false≢true (sym off ∙ subst (λ c. is_on_way types (row_at rows i).code c ≡ true) on.code (spans_way types rows over i k within on.spans))))

-- ---- what a get returns

pub path_rows_by_level : PathRowsAreByLevel
path_rows_by_level types rows ssas i search_ within code =
    ap (λ (xs : List ℕ). xs ++ i ∷ []) (same (above_target ssas) (front (length ssas - 1) ssas (on_way_all types rows ssas search_)))
  where
    front : (n : ℕ) (as_ : List Ssa) → AreOnWay types (target_code ssas) as_ → AreOnWay types (target_code ssas) (take n as_)
    front zero as_ w = tt
    front (suc n) [] w = tt
    front (suc n) (a ∷ as_) w = (w.0, front n as_ w.1)

    one : (a : Ssa) → is_on_way types (target_code ssas) a.code ≡ true → on_path types rows a.code i ≡ path_row types rows i (level_of types a.code)
    one a way =
        types_by_level types rows a.code i search_.over within
        ∙ cond-true _ (path_row types rows i (level_of types a.code)) None (subst (λ c. is_on_way types c a.code ≡ true) (sym code) way)

    same : (as_ : List Ssa) → AreOnWay types (target_code ssas) as_
        → filter_map (λ a. cond a.commands.path (on_path types rows a.code i) None) as_ ≡ filter_map (λ a. cond a.commands.path (path_row types rows i (level_of types a.code)) None) as_
    same [] w = refl
    same (a ∷ as_) w = ap₂ (λ (o : Option ℕ) (xs : List ℕ). cons_option (cond a.commands.path o None) xs) (one a w.0) (same as_ w.1)
