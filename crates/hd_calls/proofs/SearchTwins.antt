-- A row's later twins, and the rest of its parent's rows.
use Rattle.std.proofs.Common.{true, false, ◌≡◌, ℕ, suc, ◌+◌, ◌-◌, ◌<◌, ◌≤◌, List, length, arith, ap, sym, ◌∙◌, refl, subst, inl, inr, ◌⊎◌, Option, Some, None}
use Rattle.std.specs.Prelude.{◌==◌, unwrap_or}
use Rattle.std.proofs.lemmas.Bool.{cases_lt, eq-eqb, false≢true, and_parts, and_from}
use Rattle.hd_dbd.specs.Types.{SegmentType}
use Rattle.hd_dbd.specs.Hierarchy.{level_of}
use Rattle.hd_dbd.specs.Segment.{Segment}
use Rattle.hd_dbd.specs.Paths.{row_at, level_at, nearest_above, parent_row, end_of, is_twin, have_one_parent}
use Rattle.hd_dbd.proofs.Names.{option_eq-Decides}
use Rattle.hd_calls.specs.Places.{end_below}
use Rattle.hd_calls.proofs.Searches.{least_some, least_no}
use Rattle.hd_calls.proofs.Spans.{end_is, nearest_past}
use Rattle.hd_calls.specs.Admits.{admits, is_on_way, AreRowsOf}
use Rattle.hd_calls.specs.SearchTwins.{next_twin, NextTwinsFollow, TwinsFail, EarlierTwinsFail, EarlierRootsFail}
use Rattle.hd_calls.proofs.OnPaths.{Spans, spans_parent, way_spans, level_below, level_top, some_level, root_spans}
use Rattle.hd_calls.proofs.Failing.{unnamed, unnamed_by, spans_fail}

module _ (types : List SegmentType) (rows : List Segment) (over : AreRowsOf types rows) (i : ℕ) (within : i < length rows) where
  -- the rows of a parent behind one of its rows are no higher than that
  no_higher : (o : Option ℕ) → parent_row types rows i ≡ o → (end_below types rows o ≤ length rows) × ((x : ℕ) → i ≤ x → x < end_below types rows o → level_at types rows i ≤ level_at types rows x)
  no_higher None e =
      (omega arith, λ x a b. (let top : level_at types rows i ≡ 1 = level_top types rows over i within e in let some : 0 < level_at types rows x = some_level types rows over x b in omega arith))
  no_higher (Some q) e =
      let up : Spans types rows q i = spans_parent types rows q i within e in
      let E = end_is types rows q (omega (arith, up.from)) in (
        E.within,
        λ x a b.
            (let own : level_at types rows i ≡ level_at types rows q + 1 = level_below types rows over i q within e in
            let deep : level_at types rows q < level_at types rows x = E.deeper x (before x up.from a own) b in omega arith),
      )
    where
      before : (x : ℕ) → q ≤ i → i ≤ x → level_at types rows i ≡ level_at types rows q + 1 → q + 1 ≤ x
      before x low high own = elim (cases_lt q x) [
        | inl w ↦ omega arith
        | inr w ↦ (let e : level_at types rows i ≡ level_at types rows q = ap (level_at types rows) (let z : i ≡ q = omega arith in z) in absurd (omega arith))
      ]

  -- of a parent's rows, one of the type of another and behind it is its twin
  twin_of : (j k : ℕ) → i < k → k ≤ j → j < end_below types rows (parent_row types rows i) → (row_at rows k).code ≡ (row_at rows i).code → is_twin types rows i k ≡ true
  twin_of j k a b d c =
      let H = no_higher (parent_row types rows i) refl in
      let past : nearest_above types rows (level_at types rows i) (i + (k - i)) ≡ nearest_above types rows (level_at types rows i) i
      = nearest_past types rows (level_at types rows i) i (k - i) (λ x u v. H.1 x u (omega arith)) in
      let same : parent_row types rows k ≡ parent_row types rows i
      = ap (λ l. nearest_above types rows l k) (ap (level_of types) c) ∙ ap (nearest_above types rows (level_at types rows i)) (let z : k ≡ i + (k - i) = omega arith in z) ∙ past in
      and_from _ _ (eq-eqb (row_at rows i).code (row_at rows k).code (sym c)) ((option_eq-Decides (parent_row types rows i) (parent_row types rows k)).1 (sym same))

  -- below its parent, a row behind row i of a type to which row i's is on the way is in the span of row i or of a later twin
  twin_spans : (j : ℕ) → i ≤ j → j < end_below types rows (parent_row types rows i) → is_on_way types (row_at rows j).code (row_at rows i).code ≡ true
      → (j < length rows) × ((k : ℕ) × Spans types rows k j × ((k ≡ i) ⊎ ((i < k) × (is_twin types rows i k ≡ true))))
  twin_spans j low high way =
      let H = no_higher (parent_row types rows i) refl in
      let jw : j < length rows = (let most = H.0 in omega arith) in
      let K = way_spans types rows over j (row_at rows i).code jw way in
      let on = K.1 in (
        jw,
        (
          K.0,
          on.spans,
          elim (cases_lt K.0 i) [
            | inl less ↦ absurd
                (let E = end_is types rows K.0 (omega arith) in
                let deep : level_at types rows K.0 < level_at types rows i = E.deeper i (omega arith) (omega (arith, on.spans.to)) in
                let same : level_at types rows K.0 ≡ level_at types rows i = ap (level_of types) on.code in omega arith)
            | inr more ↦ elim (cases_lt i K.0) [
              | inl behind ↦ inr (behind, twin_of j K.0 behind on.spans.from high on.code)
              | inr here ↦ inl (omega arith)
            ]
          ],
        ),
      )

  -- a twin is below one's parent
  pub twin_within : (t : ℕ) → t < length rows → is_twin types rows i t ≡ true → t < end_below types rows (parent_row types rows i)
  twin_within t tw twin = by_parent (parent_row types rows i) refl
    where
      same : parent_row types rows t ≡ parent_row types rows i
      same = sym ((option_eq-Decides (parent_row types rows i) (parent_row types rows t)).0 (and_parts ((row_at rows i).code == (row_at rows t).code) (have_one_parent types rows i t) twin).1)

      by_parent : (o : Option ℕ) → parent_row types rows i ≡ o → t < end_below types rows o
      by_parent None e = tw
      by_parent (Some q) e = (let up : Spans types rows q t = spans_parent types rows q t tw (same ∙ e) in up.to)

pub twins_fail : TwinsFail
twins_fail types rows ssas i over within way none later j from to =
    unnamed_by types rows ssas j (λ e.
    let K = twin_spans types rows over i within j from to (subst (λ c. is_on_way types c (row_at rows i).code ≡ true) (sym e) way) in
    let jw : j < length rows = K.0 in
    let s = K.1.1 in
    let fails : admits types rows ssas K.1.0 ≡ false = elim K.1.2 [
      | inl here ↦ subst (λ x. admits types rows ssas x ≡ false) (sym here) none
      | inr twin ↦ later K.1.0 twin.0 (omega (arith, s.from)) twin.1
    ] in
    spans_fail types rows ssas K.1.0 (omega (arith, s.from)) fails j s.from s.to)

pub earlier_twins_fail : EarlierTwinsFail
earlier_twins_fail types rows ssas i t over within last way twin none later j from to =
    unnamed_by types rows ssas j (λ e.
    let high : t < end_below types rows (parent_row types rows i) = twin_within types rows over i within t last twin in
    let K = twin_spans types rows over i within j from (omega arith) (subst (λ c. is_on_way types c (row_at rows i).code ≡ true) (sym e) way) in
    let jw : j < length rows = K.0 in
    let s = K.1.1 in
    let fails : admits types rows ssas K.1.0 ≡ false = elim K.1.2 [
      | inl here ↦ subst (λ x. admits types rows ssas x ≡ false) (sym here) none
      | inr between ↦ later K.1.0 between.0 (omega (arith, s.from)) between.1
    ] in
    spans_fail types rows ssas K.1.0 (omega (arith, s.from)) fails j s.from s.to)

pub next_twins : NextTwinsFollow
next_twins types rows ssas i over within way j from to =
    unnamed types rows ssas j (λ e.
    let E = end_is types rows i within in
    let low : i < j = (let b : i < end_of types rows i = E.behind in omega arith) in
    let high : j < end_below types rows (parent_row types rows i) = below (next_twin types rows i) refl to in
    let K = twin_spans types rows over i within j (omega arith) high (subst (λ c. is_on_way types c (row_at rows i).code ≡ true) (sym e) way) in
    let jw : j < length rows = K.0 in
    let s = K.1.1 in
    elim K.1.2 [
      | inl here ↦ (let z : j < end_of types rows i = subst (λ x. j < end_of types rows x) here s.to in absurd (omega arith))
      | inr twin ↦ no_twin (next_twin types rows i) refl to K.1.0 twin.0 (omega (arith, s.from)) s.from twin.1
    ])
  where
    below : (o : Option ℕ) → next_twin types rows i ≡ o → j < unwrap_or o (end_below types rows (parent_row types rows i)) → j < end_below types rows (parent_row types rows i)
    below None is less = less
    below (Some t) is less =
        (let L = least_some (λ k. is_twin types rows i k) (length rows - (i + 1)) (i + 1) t is in
        let high : t < end_below types rows (parent_row types rows i) = twin_within types rows over i within t (omega (arith, L.0, L.1)) L.2 in omega arith)

    no_twin : (o : Option ℕ) → next_twin types rows i ≡ o → j < unwrap_or o (end_below types rows (parent_row types rows i)) → (k : ℕ) → i < k → k < length rows → k ≤ j
        → is_twin types rows i k ≡ true → ⊥
    no_twin None is less k low high up twin =
        absurd (false≢true (sym (least_no (λ k. is_twin types rows i k) (length rows - (i + 1)) (i + 1) is k (omega arith) (omega arith)) ∙ twin))
    no_twin (Some t) is less k low high up twin =
        (let L = least_some (λ k. is_twin types rows i k) (length rows - (i + 1)) (i + 1) t is in
        absurd (false≢true (sym (L.3 k (omega arith) (omega arith)) ∙ twin)))

-- ---- roots

pub earlier_roots_fail : EarlierRootsFail
earlier_roots_fail types rows ssas r over most none j from to =
    let K = root_spans types rows over (suc j) j (omega arith) (omega arith) in
    let s = K.1.spans in
    spans_fail types rows ssas K.0 (omega (arith, s.from)) (none K.0 (omega (arith, s.from)) K.1.code) j s.from s.to
