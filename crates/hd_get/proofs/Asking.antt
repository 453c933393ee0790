-- Why a search by segment search arguments goes where it goes from a row.
use Rattle.std.proofs.Common.{◌≡◌, ◌≢◌, ℕ, ◌+◌, ◌-◌, ◌<◌, ◌≤◌, List, [], ◌∷◌, length, Bool, true, false, Option, Some, None, refl, sym, ap, subst, ◌∙◌, arith, inl, inr}
use Rattle.std.specs.Prelude.{◌==◌, ◌&&◌, cond, nat_lt, unwrap_or, is_some, is_none, option_map, option_and_then, IfSome}
use Rattle.std.specs.Option.{option_map_or}
use Rattle.std.specs.List.{list_all, list_any}
use Rattle.std.proofs.lemmas.Bool.{cases_lt, cases_Bool, cond-true, cond-false, lt-ltb, le-ltb, eq-eqb, eqb-true, ne_eqb, and_parts, and_from, or_cases, false≢true}
use Rattle.hd_dbd.specs.Types.{SegmentType}
use Rattle.hd_dbd.specs.Hierarchy.{parent_of}
use Rattle.hd_dbd.specs.Forest.{Forest}
use Rattle.hd_dbd.specs.Paths.{row_at, parent_row, path_of, end_of, is_twin}
use Rattle.hd_dbd.specs.Prefixes.{children_of}
use Rattle.hd_dbd.proofs.LevelLaw.{typed}
use Rattle.hd_dbd.proofs.Levels.{type_within}
use Rattle.hd_dbd.proofs.Names.{option_eq-Decides}
use Rattle.hd_prefix.proofs.Listed.{children_listed}
use Rattle.hd_links.specs.Links.{is_child_type, is_last_kept}
use Rattle.hd_links.specs.Placed.{Placed}
use Rattle.hd_links.specs.Steps.{rows_of}
use Rattle.hd_calls.specs.Ssas.{target_code}
use Rattle.hd_calls.specs.Satisfies.{is_named}
use Rattle.hd_calls.specs.Places.{end_below}
use Rattle.hd_calls.proofs.Spans.{end_is}
use Rattle.hd_calls.proofs.Searches.{least_some, least_no}
use Rattle.hd_calls.specs.Admits.{NonePass, AreRowsOf, IsSearch, admits, is_on_way}
use Rattle.hd_calls.specs.SearchKeys.{is_past}
use Rattle.hd_calls.specs.SearchTwins.{next_twin}
use Rattle.hd_calls.specs.SearchWays.{way_down, way_beside}
use Rattle.hd_calls.proofs.OnPaths.{has, levels_are, sequence_is, spans_on, parent_code, root_code}
use Rattle.hd_calls.proofs.Admitting.{named_admitted}
use Rattle.hd_calls.proofs.Failing.{spans_fail, other_types_fail}
use Rattle.hd_calls.proofs.SearchTwins.{next_twins, twin_within}
use Rattle.hd_calls.proofs.SearchKeys.{past_keys_fail}
use Rattle.hd_calls.proofs.SearchWays.{first_children, down_some, down_found, down_of, down_parts}
use Rattle.hd_calls.proofs.Beside.{no_later_types, later_types}
use Rattle.hd_get.specs.declared.verdict.Verdict.TheVariants.{Found, Down, DownToLast, Across, Beside, BesideToLast, Rest}
use Rattle.hd_get.specs.Searches.{is_above_admitted, twin_or_end, child_or_end, NonePassAcross, IsWayDown, IsJudged}
use Rattle.hd_get.specs.Asking.{Asked, SsasSuit, may_read, is_asked, is_admitted, verdict_beside, verdict_beside_to, asks_last, goes_to_last, verdict_to, verdict_down}
use Rattle.hd_get.proofs.LastChildren.{child_parts, first_before, none_before_children}
use Rattle.hd_get.proofs.Spans.{parent_span, parent_within, above_parent, whole_admitted}
use Rattle.hd_get.proofs.Judging.{judged_found, judged_down, judged_to_last, judged_across, judged_beside, judged_beside_to_last, judged_rest}

-- a type is a child type of its parent
pub child_of : (types : List SegmentType) (p c : ℕ) → (p ≡ 0 → ⊥) → parent_of types c ≡ Some p → is_child_type types p c ≡ true
child_of types p c some is =
    ap (λ (xs : List ℕ). list_any (λ u. u == c) xs) (cond-false (p == 0) (1 ∷ []) (children_of types p) (ne_eqb p 0 some))
    ∙ children_listed types p c ∙ ap (λ (o : Option ℕ). option_map_or (λ q. q == p) o false) is ∙ eq-eqb p p refl

-- what passes for all numbers of a list passes for one of it, and what follows from it passes for all
passes_on : (test : ℕ → Bool) (k : ℕ) (xs : List ℕ) → list_all test xs ≡ true → has k xs ≡ true → test k ≡ true
passes_on test k [] all on = cc
passes_on test k (x ∷ xs) all on =
    let P = and_parts (test x) (list_all test xs) all in
    elim (or_cases (x == k) (has k xs) on) [
      | inl here ↦ ap test (sym (eqb-true x k here)) ∙ P.0
      | inr behind ↦ passes_on test k xs P.1 behind
    ]

all_pass : (test other : ℕ → Bool) → ((k : ℕ) → test k ≡ true → other k ≡ true) → (xs : List ℕ) → list_all test xs ≡ true → list_all other xs ≡ true
all_pass test other more [] all = refl
all_pass test other more (x ∷ xs) all = (let P = and_parts (test x) (list_all test xs) all in and_from _ _ (more x P.0) (all_pass test other more xs P.1))

module _ (types : List SegmentType) (f : Forest Placed) (a : Asked) (over : AreRowsOf types (rows_of f)) (suits : SsasSuit types a.ssas) where
  -- what is not named is not asked for
  pub none_asked : (from to : ℕ) → NonePass (is_named types (rows_of f) a.ssas) from to → NonePass (is_asked a types (rows_of f)) from to
  none_asked from to none j low high = ap (λ (b : Bool). b && may_read a.pcb types (row_at (rows_of f) j).code) (none j low high)

  search_of : IsSearch types (rows_of f) a.ssas
  search_of = record { over = over; descend = suits.1 }

  module _ (i : ℕ) (within : i < length (rows_of f)) (above : is_above_admitted (is_admitted a types (rows_of f)) types (rows_of f) i ≡ true) where
    -- the rows above are admitted
    above_is : (k : ℕ) → k < i → i < end_of types (rows_of f) k → is_admitted a types (rows_of f) k ≡ true
    above_is k low inside =
        let P = parent_within types (rows_of f) k i low within inside in
        let S = parent_span types (rows_of f) i P.0 within P.1 in
        let before : P.0 < i = S.0 in
        passes_on (is_admitted a types (rows_of f)) k (path_of types (rows_of f) P.0)
        (sym (ap (λ (o : Option ℕ). option_map_or (λ q. list_all (is_admitted a types (rows_of f)) (path_of types (rows_of f) q)) o true) P.1) ∙ above)
        (spans_on types (rows_of f) k P.0 (omega arith) (record { from = P.2; to = omega arith }))

    -- none passes from the spans that the row lies in to the next twins
    across_of : NonePass (is_asked a types (rows_of f)) (end_of types (rows_of f) i) (twin_or_end types (rows_of f) i) → NonePassAcross (is_asked a types (rows_of f)) types (rows_of f) i
    across_of own k low inside = elim (cases_lt k i) [
      | inl w ↦ none_asked (end_of types (rows_of f) k) (twin_or_end types (rows_of f) k)
          (next_twins types (rows_of f) a.ssas k over (omega arith) (and_parts (is_on_way types (target_code a.ssas) (row_at (rows_of f) k).code) _ (above_is k w inside)).0)
      | inr w ↦ subst (λ x. NonePass (is_asked a types (rows_of f)) (end_of types (rows_of f) x) (twin_or_end types (rows_of f) x)) (let z : i ≡ k = omega arith in z) own
    ]

    across_way : is_on_way types (target_code a.ssas) (row_at (rows_of f) i).code ≡ true → NonePassAcross (is_asked a types (rows_of f)) types (rows_of f) i
    across_way way = across_of (none_asked (end_of types (rows_of f) i) (twin_or_end types (rows_of f) i) (next_twins types (rows_of f) a.ssas i over within way))

    -- where the rest of the parent's rows fail, so do those before the next twin
    rest_across : NonePass (is_asked a types (rows_of f)) i (end_below types (rows_of f) (parent_row types (rows_of f) i)) → NonePassAcross (is_asked a types (rows_of f)) types (rows_of f) i
    rest_across rest = across_of (by_twin (next_twin types (rows_of f) i) refl)
      where
        behind : i < end_of types (rows_of f) i
        behind = (end_is types (rows_of f) i within).behind

        by_twin : (o : Option ℕ) → next_twin types (rows_of f) i ≡ o → NonePass (is_asked a types (rows_of f)) (end_of types (rows_of f) i) (unwrap_or o (end_below types (rows_of f) (parent_row types (rows_of f) i)))
        by_twin None e j low high = rest j (let b : i < end_of types (rows_of f) i = behind in omega arith) high
        by_twin (Some t) e j low high =
            (let L = least_some _ (length (rows_of f) - (i + 1)) (i + 1) t e in
            let high_ : t < end_below types (rows_of f) (parent_row types (rows_of f) i) = twin_within types (rows_of f) over i within t (omega (arith, L.0, L.1)) L.2 in
            let b : i < end_of types (rows_of f) i = behind in rest j (omega arith) (omega arith))

    -- the parent's span ends with its rows
    span_within : end_of types (rows_of f) i ≤ end_below types (rows_of f) (parent_row types (rows_of f) i)
    span_within = by_parent (parent_row types (rows_of f) i) refl
      where
        by_parent : (o : Option ℕ) → parent_row types (rows_of f) i ≡ o → end_of types (rows_of f) i ≤ end_below types (rows_of f) o
        by_parent None e = (end_is types (rows_of f) i within).within
        by_parent (Some q) e = (parent_span types (rows_of f) i q within e).2

    pub rested : NonePass (is_named types (rows_of f) a.ssas) i (end_below types (rows_of f) (parent_row types (rows_of f) i)) → IsJudged (is_asked a types (rows_of f)) (is_admitted a types (rows_of f)) types f i Rest
    rested none =
        let rest = none_asked i (end_below types (rows_of f) (parent_row types (rows_of f) i)) none in
        judged_rest (is_asked a types (rows_of f)) (is_admitted a types (rows_of f)) types f i (λ j low high. rest j low (let w : end_of types (rows_of f) i ≤ end_below types (rows_of f) (parent_row types (rows_of f) i) = span_within in omega arith))
        rest (rest_across rest)

    -- where the row is admitted, the search may go down to a child on the way
    down_way : (c : ℕ) → is_admitted a types (rows_of f) i ≡ true → way_down types (target_code a.ssas) (row_at (rows_of f) i).code ≡ Some c
        → IsWayDown (is_asked a types (rows_of f)) (is_admitted a types (rows_of f)) types (rows_of f) i c
    down_way c own way = record {
      admitted = own;
      child = child_of types (row_at (rows_of f) i).code c some (down_parts types (levels_are types (rows_of f) over) (target_code a.ssas) (row_at (rows_of f) i).code c
          (down_found types (levels_are types (rows_of f) over) (target_code a.ssas) (row_at (rows_of f) i).code c way)).0;
      none = none_asked i (child_or_end types (rows_of f) i c) (first_children types (rows_of f) a.ssas i c over within way);
      across = across_way (and_parts (is_on_way types (target_code a.ssas) (row_at (rows_of f) i).code) _ own).0;
    }
      where
        some : (row_at (rows_of f) i).code ≡ 0 → ⊥
        some z =
            (let T = typed types (row_at (rows_of f) i) ((sequence_is types (rows_of f) over).fit i within) in
            let low : 0 < (row_at (rows_of f) i).code = (type_within types (row_at (rows_of f) i).code T.0 T.1).0 in omega arith)

    -- a row of the last argument's type is named where it is admitted
    named_here : (row_at (rows_of f) i).code ≡ target_code a.ssas → is_admitted a types (rows_of f) i ≡ true → is_named types (rows_of f) a.ssas i ≡ true
    named_here code own =
        named_admitted types (rows_of f) a.ssas i search_of within
        ∙ and_from _ _ (eq-eqb (row_at (rows_of f) i).code (target_code a.ssas) code)
        (all_pass (is_admitted a types (rows_of f)) (admits types (rows_of f) a.ssas) (λ k h. (and_parts (is_on_way types (target_code a.ssas) (row_at (rows_of f) k).code) _ h).1) (path_of types (rows_of f) i)
        (whole_admitted (is_asked a types (rows_of f)) (is_admitted a types (rows_of f)) types (rows_of f) i above own))

  -- where the last argument's type may not be read, no row is asked for
  unread : (code from to : ℕ) → code ≡ target_code a.ssas → may_read a.pcb types code ≡ false → NonePass (is_asked a types (rows_of f)) from to
  unread code from to is other j low high = elim (cases_Bool (is_asked a types (rows_of f) j)) [
    | inl t ↦ (let P = and_parts (is_named types (rows_of f) a.ssas j) _ t in
        let N = and_parts ((row_at (rows_of f) j).code == target_code a.ssas) _ P.0 in
        absurd (false≢true (sym other ∙ ap (may_read a.pcb types) (is ∙ sym (eqb-true (row_at (rows_of f) j).code (target_code a.ssas) N.0)) ∙ P.1)))
    | inr f ↦ f
  ]

  module _ (i : ℕ) (within : i < length (rows_of f)) (above : is_above_admitted (is_admitted a types (rows_of f)) types (rows_of f) i ≡ true) where
    -- the row's type is off the way
    pub judged_off : is_on_way types (target_code a.ssas) (row_at (rows_of f) i).code ≡ false
        → IsJudged (is_asked a types (rows_of f)) (is_admitted a types (rows_of f)) types f i (verdict_beside types a.ssas (target_code a.ssas) (row_at (rows_of f) i).code)
    judged_off off = by_way (way_beside types (target_code a.ssas) (row_at (rows_of f) i).code) refl
      where
        resting : IfSome (way_beside types (target_code a.ssas) (row_at (rows_of f) i).code) (λ c. c ≤ (row_at (rows_of f) i).code)
            → IsJudged (is_asked a types (rows_of f)) (is_admitted a types (rows_of f)) types f i Rest
        resting none = rested i within above (no_later_types types (rows_of f) a.ssas i over within off none)

        -- the parent of a row whose type has a type beside it that is on the way
        by_parent : (c : ℕ) (o : Option ℕ) → parent_row types (rows_of f) i ≡ o → way_beside types (target_code a.ssas) (row_at (rows_of f) i).code ≡ Some c
            → (q : ℕ) × (parent_row types (rows_of f) i ≡ Some q) × (way_down types (target_code a.ssas) (row_at (rows_of f) q).code ≡ Some c)
        by_parent c None e way =
            (let none : parent_of types (row_at (rows_of f) i).code ≡ None = sym ((sequence_is types (rows_of f) over).parents i within) ∙ ap (option_map (λ j. (row_at (rows_of f) j).code)) e in
            let z : None ≡ Some c = sym (ap (option_and_then (λ p. way_down types (target_code a.ssas) p)) none) ∙ way in cc)
        by_parent c (Some q) e way = (q, e, sym (ap (option_and_then (λ p. way_down types (target_code a.ssas) p)) (parent_code types (rows_of f) over i q within e)) ∙ way)

        besides : (c : ℕ) → way_beside types (target_code a.ssas) (row_at (rows_of f) i).code ≡ Some c → (row_at (rows_of f) i).code < c
            → IsJudged (is_asked a types (rows_of f)) (is_admitted a types (rows_of f)) types f i (verdict_beside_to types a.ssas c)
        besides c way later =
            let Q = by_parent c (parent_row types (rows_of f) i) refl way in
            let S = parent_span types (rows_of f) i Q.0 within Q.1 in
            let qi : Q.0 < i = S.0 in
            let qe : end_of types (rows_of f) i ≤ end_of types (rows_of f) Q.0 = S.2 in
            let behind : i < end_of types (rows_of f) i = (end_is types (rows_of f) i within).behind in
            let qw : Q.0 < length (rows_of f) = omega arith in
            let up = above_parent (is_asked a types (rows_of f)) (is_admitted a types (rows_of f)) types (rows_of f) i Q.0 Q.1 above in
            by_last (goes_to_last types a.ssas c) refl Q.0 Q.1 Q.2 (down_way Q.0 qw up c (above_is i within above Q.0 qi (omega arith)) Q.2) qw (let r : i < end_of types (rows_of f) Q.0 = omega arith in r)
          where
            by_last : (b : Bool) → goes_to_last types a.ssas c ≡ b → (q : ℕ) → parent_row types (rows_of f) i ≡ Some q → way_down types (target_code a.ssas) (row_at (rows_of f) q).code ≡ Some c
                → IsWayDown (is_asked a types (rows_of f)) (is_admitted a types (rows_of f)) types (rows_of f) q c → q < length (rows_of f) → i < end_of types (rows_of f) q
                → IsJudged (is_asked a types (rows_of f)) (is_admitted a types (rows_of f)) types f i (cond b (BesideToLast c) (Beside c))
            by_last false last q is way_ down qw inside =
                judged_beside (is_asked a types (rows_of f)) (is_admitted a types (rows_of f)) types f i c (none_asked i (end_of types (rows_of f) i) (other_types_fail types (rows_of f) a.ssas i over within off))
                (record { parent = q; is = is; down = down; later = later_types types (rows_of f) i q c over within is later })
            by_last true last q is way_ down qw inside =
                (let L = and_parts (is_last_kept types c) (list_any (λ b. asks_last c b) a.ssas) last in
                judged_beside_to_last (is_asked a types (rows_of f)) (is_admitted a types (rows_of f)) types f i c (none_asked i (end_of types (rows_of f) i) (other_types_fail types (rows_of f) a.ssas i over within off))
                (record {
                  parent = q;
                  is = is;
                  to_last = record {
                    down = down;
                    kept = L.0;
                    last = λ j jw child. none_asked q j (none_before_children types (rows_of f) a.ssas q c over qw way_ L.1 j jw child);
                  };
                  later = record {
                    inside = inside;
                    before = λ j jw child none.
                        (let first : i < child_or_end types (rows_of f) q c = later_types types (rows_of f) i q c over within is later in
                        let J = parent_span types (rows_of f) j q jw (child_parts types (rows_of f) q c j child).0 in
                        let qj : q < j = J.0 in
                        let je : j < end_of types (rows_of f) j = (end_is types (rows_of f) j jw).behind in
                        let ee : end_of types (rows_of f) j ≤ end_of types (rows_of f) q = J.2 in
                        let low : child_or_end types (rows_of f) q c ≤ j = first_before types (rows_of f) q c j qj (omega arith) child in omega arith);
                  };
                }))

        by_way : (o : Option ℕ) → way_beside types (target_code a.ssas) (row_at (rows_of f) i).code ≡ o
            → IsJudged (is_asked a types (rows_of f)) (is_admitted a types (rows_of f)) types f i (option_map_or (λ c. cond (nat_lt (row_at (rows_of f) i).code c) (verdict_beside_to types a.ssas c) Rest) o Rest)
        by_way None e = resting (subst (λ o. IfSome o (λ c. c ≤ (row_at (rows_of f) i).code)) (sym e) tt)
        by_way (Some c) e = elim (cases_lt (row_at (rows_of f) i).code c) [
          | inl later ↦ subst (IsJudged (is_asked a types (rows_of f)) (is_admitted a types (rows_of f)) types f i) (sym (cond-true (nat_lt (row_at (rows_of f) i).code c) (verdict_beside_to types a.ssas c) Rest (lt-ltb (row_at (rows_of f) i).code c later)))
              (besides c e later)
          | inr past ↦ subst (IsJudged (is_asked a types (rows_of f)) (is_admitted a types (rows_of f)) types f i) (sym (cond-false (nat_lt (row_at (rows_of f) i).code c) (verdict_beside_to types a.ssas c) Rest (le-ltb (row_at (rows_of f) i).code c past)))
              (resting (subst (λ o. IfSome o (λ c. c ≤ (row_at (rows_of f) i).code)) (sym e) past))
        ]

    -- the row's type is on the way
    module _ (way : is_on_way types (target_code a.ssas) (row_at (rows_of f) i).code ≡ true) where
      pub judged_past : is_past types a.ssas (row_at (rows_of f) i) ≡ true → IsJudged (is_asked a types (rows_of f)) (is_admitted a types (rows_of f)) types f i Rest
      judged_past past = rested i within above (past_keys_fail types (rows_of f) a.ssas i over within way past)

      -- the row is not the last of its twins, which alone is asked for
      pub judged_later : admits types (rows_of f) a.ssas i ≡ false → (row_at (rows_of f) i).code ≢ 1 → goes_to_last types a.ssas (row_at (rows_of f) i).code ≡ true → is_none (next_twin types (rows_of f) i) ≡ false
          → IsJudged (is_asked a types (rows_of f)) (is_admitted a types (rows_of f)) types f i (BesideToLast (row_at (rows_of f) i).code)
      judged_later unmet other last later = by_parent (parent_row types (rows_of f) i) refl
        where
          behind_j : (j : ℕ) → j < length (rows_of f) → is_twin types (rows_of f) j i ≡ true → next_twin types (rows_of f) j ≡ None → i < j
          behind_j j jw twin none = elim (cases_lt i j) [
            | inl w ↦ w
            | inr w ↦ elim (cases_lt j i) [
              | inl early ↦ absurd (false≢true (sym (least_no (λ k. is_twin types (rows_of f) j k) (length (rows_of f) - (j + 1)) (j + 1) none i (omega arith) (omega arith)) ∙ twin))
              | inr same ↦ absurd (false≢true (sym later ∙ ap is_none (ap (next_twin types (rows_of f)) (let z : i ≡ j = omega arith in z) ∙ none)))
            ]
          ]

          by_parent : (o : Option ℕ) → parent_row types (rows_of f) i ≡ o → IsJudged (is_asked a types (rows_of f)) (is_admitted a types (rows_of f)) types f i (BesideToLast (row_at (rows_of f) i).code)
          by_parent None e = absurd (other (root_code types (rows_of f) over i within e))
          by_parent (Some q) e =
              (let S = parent_span types (rows_of f) i q within e in
              let qi : q < i = S.0 in
              let qe : end_of types (rows_of f) i ≤ end_of types (rows_of f) q = S.2 in
              let behind : i < end_of types (rows_of f) i = (end_is types (rows_of f) i within).behind in
              let qw : q < length (rows_of f) = omega arith in
              let inside : i < end_of types (rows_of f) q = omega arith in
              let up = above_parent (is_asked a types (rows_of f)) (is_admitted a types (rows_of f)) types (rows_of f) i q e above in
              let parent : parent_of types (row_at (rows_of f) i).code ≡ Some (row_at (rows_of f) q).code = parent_code types (rows_of f) over i q within e in
              let way_ : way_down types (target_code a.ssas) (row_at (rows_of f) q).code ≡ Some (row_at (rows_of f) i).code
              = down_of types (levels_are types (rows_of f) over) (target_code a.ssas) (row_at (rows_of f) q).code (row_at (rows_of f) i).code
              (and_from _ _ ((option_eq-Decides (parent_of types (row_at (rows_of f) i).code) (Some (row_at (rows_of f) q).code)).1 parent) way) in
              let L = and_parts (is_last_kept types (row_at (rows_of f) i).code) (list_any (λ b. asks_last (row_at (rows_of f) i).code b) a.ssas) last in
              judged_beside_to_last (is_asked a types (rows_of f)) (is_admitted a types (rows_of f)) types f i (row_at (rows_of f) i).code
              (none_asked i (end_of types (rows_of f) i) (spans_fail types (rows_of f) a.ssas i within unmet))
              (record {
                parent = q;
                is = e;
                to_last = record {
                  down = down_way q qw up (row_at (rows_of f) i).code (above_is i within above q qi inside) way_;
                  kept = L.0;
                  last = λ j jw child. none_asked q j (none_before_children types (rows_of f) a.ssas q (row_at (rows_of f) i).code over qw way_ L.1 j jw child);
                };
                later = record {
                  inside = inside;
                  before = λ j jw child none.
                      (let J = child_parts types (rows_of f) q (row_at (rows_of f) i).code j child in
                      behind_j j jw (and_from _ _ (eq-eqb (row_at (rows_of f) j).code (row_at (rows_of f) i).code J.1) ((option_eq-Decides (parent_row types (rows_of f) j) (parent_row types (rows_of f) i)).1 (J.0 ∙ sym e))) none);
                };
              }))

      pub judged_unmet : admits types (rows_of f) a.ssas i ≡ false → IsJudged (is_asked a types (rows_of f)) (is_admitted a types (rows_of f)) types f i Across
      judged_unmet unmet =
          judged_across (is_asked a types (rows_of f)) (is_admitted a types (rows_of f)) types f i (none_asked i (end_of types (rows_of f) i) (spans_fail types (rows_of f) a.ssas i within unmet)) (across_way i within above way)

      pub judged_met : admits types (rows_of f) a.ssas i ≡ true
          → IsJudged (is_asked a types (rows_of f)) (is_admitted a types (rows_of f)) types f i (verdict_down a.pcb types a.ssas (target_code a.ssas) (row_at (rows_of f) i).code)
      judged_met met = by_way (way_down types (target_code a.ssas) (row_at (rows_of f) i).code) refl
        where
          own : is_admitted a types (rows_of f) i ≡ true
          own = and_from _ _ way met

          -- the way ends at the last argument's type
          target_is : way_down types (target_code a.ssas) (row_at (rows_of f) i).code ≡ None → (row_at (rows_of f) i).code ≡ target_code a.ssas
          target_is e = elim (or_cases (target_code a.ssas == (row_at (rows_of f) i).code) _ way) [
            | inl here ↦ sym (eqb-true (target_code a.ssas) (row_at (rows_of f) i).code here)
            | inr below ↦ absurd (false≢true (ap is_some (sym e) ∙ down_some types (levels_are types (rows_of f) over) (target_code a.ssas) (row_at (rows_of f) i).code ∙ below))
          ]

          by_read : (b : Bool) → (row_at (rows_of f) i).code ≡ target_code a.ssas → may_read a.pcb types (row_at (rows_of f) i).code ≡ b
              → IsJudged (is_asked a types (rows_of f)) (is_admitted a types (rows_of f)) types f i (cond b Found Across)
          by_read true code e =
              judged_found (is_asked a types (rows_of f)) (is_admitted a types (rows_of f)) types f i (and_from _ _ (named_here i within above code own) e) own
          by_read false code e =
              judged_across (is_asked a types (rows_of f)) (is_admitted a types (rows_of f)) types f i (unread (row_at (rows_of f) i).code i (end_of types (rows_of f) i) code e)
              (λ k low inside. unread (row_at (rows_of f) i).code (end_of types (rows_of f) k) (twin_or_end types (rows_of f) k) code e)

          -- to the last child, where that is asked for
          by_last : (c : ℕ) → way_down types (target_code a.ssas) (row_at (rows_of f) i).code ≡ Some c → (b : Bool) → goes_to_last types a.ssas c ≡ b
              → IsJudged (is_asked a types (rows_of f)) (is_admitted a types (rows_of f)) types f i (cond b (DownToLast c) (Down c))
          by_last c e true last =
              (let L = and_parts (is_last_kept types c) (list_any (λ b. asks_last c b) a.ssas) last in
              judged_to_last (is_asked a types (rows_of f)) (is_admitted a types (rows_of f)) types f i c (record {
                down = down_way i within above c own e;
                kept = L.0;
                last = λ j jw child. none_asked i j (none_before_children types (rows_of f) a.ssas i c over within e L.1 j jw child);
              }))
          by_last c e false last = judged_down (is_asked a types (rows_of f)) (is_admitted a types (rows_of f)) types f i c (down_way i within above c own e)

          by_way : (o : Option ℕ) → way_down types (target_code a.ssas) (row_at (rows_of f) i).code ≡ o
              → IsJudged (is_asked a types (rows_of f)) (is_admitted a types (rows_of f)) types f i
              (option_map_or (λ c. verdict_to types a.ssas c) o (cond (may_read a.pcb types (row_at (rows_of f) i).code) Found Across))
          by_way None e = by_read (may_read a.pcb types (row_at (rows_of f) i).code) (target_is e) refl
          by_way (Some c) e = by_last c e (goes_to_last types a.ssas c) refl
