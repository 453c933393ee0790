-- Rows beside the way down.
use Rattle.std.proofs.Common.{true, ◌≡◌, ℕ, zero, suc, ◌+◌, ◌<◌, ◌≤◌, List, length, arith, ap, sym, ◌∙◌, refl, subst, inl, inr, Option, Some, None}
use Rattle.std.specs.Prelude.{◌==◌, nat_lt, option_and_then, IfSome, unwrap_or}
use Rattle.std.proofs.lemmas.Bool.{cases_lt, cases_Bool, cond-false, eqb-true, ltb-true, false≢true, and_from}
use Rattle.hd_dbd.specs.Types.{SegmentType}
use Rattle.hd_dbd.specs.Hierarchy.{parent_of}
use Rattle.hd_dbd.specs.Segment.{Segment}
use Rattle.hd_dbd.specs.Rows.{twins_in_order}
use Rattle.hd_dbd.specs.Paths.{row_at, level_at, parent_row, end_of}
use Rattle.hd_dbd.proofs.Names.{option_eq-Decides}
use Rattle.hd_calls.specs.Ssas.{target_code}
use Rattle.hd_calls.specs.Gets.{first_child}
use Rattle.hd_calls.specs.Places.{end_below}
use Rattle.hd_calls.specs.Admits.{is_on_way, AreRowsOf}
use Rattle.hd_calls.specs.SearchWays.{way_down, way_beside, NoLaterTypesFail, LaterTypesFollow}
use Rattle.hd_calls.proofs.OnPaths.{Spans, levels_are, sequence_is, spans_self, spans_trans, spans_parent, spans_step, spanned_within, one_spans, parent_code, level_below, root_code, root_spans, spans_way}
use Rattle.hd_calls.proofs.SearchWays.{down_of}
use Rattle.hd_calls.proofs.SearchStarts.{first_child_is}
use Rattle.hd_calls.proofs.Failing.{unnamed}

module _ (types : List SegmentType) (rows : List Segment) (over : AreRowsOf types rows) where
  -- the rows of a parent are in the order of their types
  in_order : (i k : ℕ) → i ≤ k → k < length rows → parent_row types rows i ≡ parent_row types rows k → (row_at rows i).code ≤ (row_at rows k).code
  in_order i k low within same = elim (cases_lt i k) [
    | inl before ↦ (let S = (sequence_is types rows over).siblings i k before within ((option_eq-Decides (parent_row types rows i) (parent_row types rows k)).1 same) in
        elim (cases_Bool ((row_at rows i).code == (row_at rows k).code)) [
          | inl t ↦ (let e : (row_at rows i).code ≡ (row_at rows k).code = eqb-true (row_at rows i).code (row_at rows k).code t in omega arith)
          | inr f ↦ (let w : (row_at rows i).code < (row_at rows k).code
              = ltb-true (row_at rows i).code (row_at rows k).code
              (sym (cond-false ((row_at rows i).code == (row_at rows k).code) (twins_in_order types (row_at rows i) (row_at rows k)) (nat_lt (row_at rows i).code (row_at rows k).code) f) ∙ S) in omega arith)
        ])
    | inr here ↦ (let e : (row_at rows i).code ≡ (row_at rows k).code = ap (λ x. (row_at rows x).code) (let z : i ≡ k = omega arith in z) in omega arith)
  ]

  -- a row below another is in the span of a child of that
  child_spans : (n q j : ℕ) → j < n → j < length rows → q < j → Spans types rows q j → (k : ℕ) × (parent_row types rows k ≡ Some q) × Spans types rows k j
  child_spans zero q j few within low s = absurd (omega arith)
  child_spans (suc n) q j few within low s =
      let S = spans_step types rows q j within low s in
      let before : S.parent < j = S.before in
      elim (cases_lt q S.parent) [
        | inl deeper ↦ (let I = child_spans n q S.parent (omega arith) (omega arith) deeper S.spans in
            (I.0, I.1, spans_trans types rows I.0 S.parent j within I.2 (spans_parent types rows S.parent j within S.is)))
        | inr here ↦ (let from : q ≤ S.parent = S.spans.from in
            (j, S.is ∙ ap (λ (x : ℕ). Some x) (let z : S.parent ≡ q = omega arith in z), spans_self types rows j within))
      ]

  -- below the parent of a row, a row behind it is in the span of a child of the parent that stands no earlier
  later_child : (i q j : ℕ) → i < length rows → parent_row types rows i ≡ Some q → i ≤ j → j < end_of types rows q
      → (k : ℕ) × (parent_row types rows k ≡ Some q) × Spans types rows k j × (i ≤ k) × (j < length rows)
  later_child i q j within is low high =
      let up : Spans types rows q i = spans_parent types rows q i within is in
      let qi : q ≤ i = up.from in
      let own : level_at types rows i ≡ level_at types rows q + 1 = level_below types rows over i q within is in
      let under : q < i = elim (cases_lt q i) [
        | inl w ↦ w
        | inr w ↦ absurd (let e : level_at types rows i ≡ level_at types rows q = ap (level_at types rows) (let z : i ≡ q = omega arith in z) in omega arith)
      ] in
      let jw : j < length rows = spanned_within types rows q j (omega arith) high in
      let K = child_spans (suc j) q j (omega arith) jw (omega arith) (record { from = omega arith; to = high }) in
      let to : j < end_of types rows K.0 = K.2.to in
      let kj : K.0 ≤ j = K.2.from in
      let deep : level_at types rows K.0 ≡ level_at types rows q + 1 = level_below types rows over K.0 q (omega arith) K.1 in (
        K.0,
        K.1,
        K.2,
        elim (cases_lt K.0 i) [
          | inl early ↦ absurd
              (let one : K.0 ≡ i = one_spans types rows K.0 i i within (record { from = omega arith; to = omega arith }) (spans_self types rows i within) (deep ∙ sym own) in omega arith)
          | inr late ↦ late
        ],
        jw,
      )

pub no_later_types : NoLaterTypesFail
no_later_types types rows ssas i over within off none j from to =
    unnamed types rows ssas j (λ e. by_parent e (parent_row types rows i) refl to)
  where
    by_parent : (row_at rows j).code ≡ target_code ssas → (o : Option ℕ) → parent_row types rows i ≡ o → j < end_below types rows o → ⊥
    by_parent e None is high =
        (let K = root_spans types rows over (suc j) j (omega arith) high in
        let way : is_on_way types (row_at rows j).code (row_at rows K.0).code ≡ true = spans_way types rows over j K.0 high K.1.spans in
        let code : (row_at rows K.0).code ≡ (row_at rows i).code = K.1.code ∙ sym (root_code types rows over i within is) in
        false≢true (sym off ∙ subst (λ c. is_on_way types (target_code ssas) c ≡ true) code (subst (λ t. is_on_way types t (row_at rows K.0).code ≡ true) e way)))
    by_parent e (Some q) is high =
        (let K = later_child types rows over i q j within is from high in
        let kj : K.0 ≤ j = K.2.from in
        let jw : j < length rows = K.4 in
        let kw : K.0 < length rows = omega arith in
        let target : ℕ = target_code ssas in
        let way : is_on_way types target (row_at rows K.0).code ≡ true = subst (λ t. is_on_way types t (row_at rows K.0).code ≡ true) e (spans_way types rows over j K.0 jw K.2) in
        let down : way_down types target (row_at rows q).code ≡ Some (row_at rows K.0).code
        = down_of types (levels_are types rows over) target (row_at rows q).code (row_at rows K.0).code
        (and_from _ _ ((option_eq-Decides (parent_of types (row_at rows K.0).code) (Some (row_at rows q).code)).1 (parent_code types rows over K.0 q kw K.1)) way) in
        let beside : way_beside types target (row_at rows i).code ≡ Some (row_at rows K.0).code
        = ap (option_and_then (λ p. way_down types target p)) (parent_code types rows over i q within is) ∙ down in
        let no : (row_at rows K.0).code ≤ (row_at rows i).code = subst (λ o. IfSome o (λ c. c ≤ (row_at rows i).code)) beside none in
        let yes_ : (row_at rows i).code ≤ (row_at rows K.0).code = in_order types rows over i K.0 K.3 kw (is ∙ sym K.1) in
        false≢true (sym off ∙ subst (λ c. is_on_way types target c ≡ true) (let z : (row_at rows K.0).code ≡ (row_at rows i).code = omega arith in z) way))

pub later_types : LaterTypesFollow
later_types types rows i q c over within is before = by_first (first_child types rows c q) refl
  where
    by_first : (o : Option ℕ) → first_child types rows c q ≡ o → i < unwrap_or o (end_of types rows q)
    by_first None e = (let up : Spans types rows q i = spans_parent types rows q i within is in up.to)
    by_first (Some j) e =
        (let F = first_child_is types rows c q j e in
        elim (cases_lt i j) [
          | inl w ↦ w
          | inr w ↦ absurd (let o : (row_at rows j).code ≤ (row_at rows i).code = in_order types rows over j i w within (F.parent_is ∙ sym is) in
              let code : (row_at rows j).code ≡ c = F.code_is in omega arith)
        ])
