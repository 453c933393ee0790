-- How spans, parents and twins lie to each other.
use Rattle.std.proofs.Common.{◌≡◌, ◌⊎◌, ℕ, ◌+◌, ◌-◌, ◌<◌, ◌≤◌, List, [], ◌∷◌, ◌++◌, length, Bool, true, false, Option, Some, None, refl, sym, ap, subst, ◌∙◌, arith, inl, inr}
use Rattle.std.specs.Prelude.{◌&&◌, ◌==◌, unwrap_or}
use Rattle.std.specs.Option.{option_map_or, option_eq}
use Rattle.std.specs.List.{list_all}
use Rattle.std.proofs.lemmas.Bool.{cases_lt, and_parts, eqb-true}
use Rattle.std.proofs.lemmas.List.Folds.{list_all-append}
use Rattle.hd_dbd.specs.Types.{SegmentType}
use Rattle.hd_dbd.specs.Segment.{Segment}
use Rattle.hd_dbd.specs.Hierarchy.{level_of}
use Rattle.hd_dbd.specs.Paths.{row_at, level_at, parent_row, path_of, end_of, is_twin}
use Rattle.hd_dbd.proofs.RowPaths.{path_follows}
use Rattle.hd_links.proofs.Numbers.{nearest_from}
use Rattle.hd_calls.specs.Places.{end_below}
use Rattle.hd_calls.proofs.Searches.{least_some}
use Rattle.hd_calls.proofs.Spans.{end_is, nearest_is}
use Rattle.hd_calls.specs.Satisfies.{is_child}
use Rattle.hd_calls.specs.Gets.{first_child}
use Rattle.hd_calls.specs.Admits.{NonePass}
use Rattle.hd_calls.specs.SearchTwins.{next_twin}
use Rattle.hd_get.specs.Searches.{is_above_admitted, NonePassAcross}

-- equal optional numbers
pub one_option : (a b : Option ℕ) → option_eq (λ p q. p == q) a b ≡ true → a ≡ b
one_option None None e = refl
one_option None (Some y) e = cc
one_option (Some x) None e = cc
one_option (Some x) (Some y) e = ap (λ z. Some z) (eqb-true x y e)

module _ (types : List SegmentType) (rows : List Segment) where
  -- the end of a span is no deeper than its row, if there is a row
  shallow : (q e : ℕ) → (e ≡ length rows) ⊎ (level_at types rows e ≤ level_at types rows q) → e < length rows → level_at types rows e ≤ level_at types rows q
  shallow q e (inl past) w = absurd (omega arith)
  shallow q e (inr low) w = low

  -- the span of a row in a span ends in it
  pub nested : (k i : ℕ) → k ≤ i → i < length rows → i < end_of types rows k → end_of types rows i ≤ end_of types rows k
  nested k i low l inside = elim (cases_lt k i) [
    | inl under ↦
        (let K = end_is types rows k (omega arith) in
        let I = end_is types rows i l in
        let iw : end_of types rows i ≤ length rows = I.within in
        let deep : level_at types rows k < level_at types rows i = K.deeper i (omega arith) inside in
        elim (cases_lt (end_of types rows k) (end_of types rows i)) [
          | inl early ↦ absurd (
              let up : level_at types rows (end_of types rows k) ≤ level_at types rows k = shallow k (end_of types rows k) K.next (omega arith) in
              let below : level_at types rows i < level_at types rows (end_of types rows k) = I.deeper (end_of types rows k) (omega arith) early in omega arith)
          | inr late ↦ late
        ])
    | inr own ↦ (let same : end_of types rows i ≡ end_of types rows k = ap (end_of types rows) (let z : i ≡ k = omega arith in z) in omega arith)
  ]

  -- a row whose parent is another lies in that one's span with its own
  pub parent_span : (k q : ℕ) → k < length rows → parent_row types rows k ≡ Some q → (q < k) × (level_at types rows q < level_at types rows k) × (end_of types rows k ≤ end_of types rows q)
  parent_span k q l is =
      let N = nearest_is types rows (level_at types rows k) k q is in
      let w : q < k = N.0 in
      let low : level_at types rows q < level_at types rows k = N.1 in
      let K = end_is types rows k l in
      let Q = end_is types rows q (omega arith) in
      let kb : k < end_of types rows k = K.behind in
      let kw : end_of types rows k ≤ length rows = K.within in
      let qb : q < end_of types rows q = Q.behind in (
        w,
        low,
        elim (cases_lt (end_of types rows q) (end_of types rows k)) [
          | inl early ↦
              (let up : level_at types rows (end_of types rows q) ≤ level_at types rows q = shallow q (end_of types rows q) Q.next (omega arith) in
              elim (cases_lt k (end_of types rows q)) [
                | inl inside ↦ absurd (let deep : level_at types rows k < level_at types rows (end_of types rows q) = K.deeper (end_of types rows q) (omega arith) early in omega arith)
                | inr before ↦ elim (cases_lt (end_of types rows q) k) [
                  | inl v ↦ absurd (let between : level_at types rows k ≤ level_at types rows (end_of types rows q) = N.2 (end_of types rows q) (omega arith) v in omega arith)
                  | inr v ↦ absurd (let same : level_at types rows (end_of types rows q) ≡ level_at types rows k = ap (level_at types rows) (let z : end_of types rows q ≡ k = omega arith in z) in omega arith)
                ]
              ])
          | inr late ↦ late
        ],
      )

  -- a row in the span of another has a parent there
  pub parent_within : (q k : ℕ) → q < k → k < length rows → k < end_of types rows q → (p : ℕ) × (parent_row types rows k ≡ Some p) × (q ≤ p)
  parent_within q k w l inside =
      let Q = end_is types rows q (omega arith) in
      let deep : level_at types rows q < level_at types rows k = Q.deeper k (omega arith) inside in
      let F = nearest_from types rows (level_at types rows k) q k w deep in (
        F.0,
        F.1,
        elim (cases_lt F.0 q) [
          | inl above ↦ absurd (let N = nearest_is types rows (level_at types rows k) k F.0 F.1 in let same : level_at types rows k ≤ level_at types rows q = N.2 q above w in omega arith)
          | inr below ↦ below
        ],
      )

  -- the next twin of a row stands behind its span, is a row, has its parent and its level
  pub record IsNextTwin (k j : ℕ) : Type 0 where
    pub behind : end_of types rows k ≤ j
    pub within : j < length rows
    pub parent : parent_row types rows j ≡ parent_row types rows k
    pub level : level_at types rows j ≡ level_at types rows k

  pub twin_is : (k j : ℕ) → k < length rows → next_twin types rows k ≡ Some j → IsNextTwin k j
  twin_is k j l is =
      let S = least_some (λ j. is_twin types rows k j) (length rows - (k + 1)) (k + 1) j is in
      let a : k + 1 ≤ j = S.0 in
      let b : j < k + 1 + (length rows - (k + 1)) = S.1 in
      let T = and_parts ((row_at rows k).code == (row_at rows j).code) _ S.2 in
      let code : (row_at rows k).code ≡ (row_at rows j).code = eqb-true _ _ T.0 in
      let same : level_at types rows k ≡ level_at types rows j = ap (level_of types) code in
      let K = end_is types rows k l in
      record {
        behind = elim (cases_lt j (end_of types rows k)) [
          | inl inside ↦ absurd (let deep : level_at types rows k < level_at types rows j = K.deeper j (omega arith) inside in omega arith)
          | inr past ↦ past
        ];
        within = omega arith;
        parent = sym (one_option (parent_row types rows k) (parent_row types rows j) T.1);
        level = sym same;
      }

  -- a twin of a row in a span is in it
  pub twin_within : (q k j : ℕ) → q < k → k < length rows → k < end_of types rows q → next_twin types rows k ≡ Some j → j < end_of types rows q
  twin_within q k j w l inside is =
      let T = twin_is k j l is in
      let P = parent_within q k w l inside in
      let N = nearest_is types rows (level_at types rows j) j P.0 (T.parent ∙ P.1) in
      let Q = end_is types rows q (omega arith) in
      let jw : j < length rows = T.within in
      let pq : q ≤ P.0 = P.2 in
      let pk : P.0 < k = (parent_span k P.0 l P.1).0 in
      let deep : level_at types rows q < level_at types rows k = Q.deeper k (omega arith) inside in
      let level : level_at types rows j ≡ level_at types rows k = T.level in
      elim (cases_lt j (end_of types rows q)) [
        | inl v ↦ v
        | inr past ↦ absurd (
            let up : level_at types rows (end_of types rows q) ≤ level_at types rows q = shallow q (end_of types rows q) Q.next (omega arith) in
            elim (cases_lt (end_of types rows q) j) [
              | inl v ↦ (let between : level_at types rows j ≤ level_at types rows (end_of types rows q) = N.2 (end_of types rows q) (omega arith) v in omega arith)
              | inr v ↦ (let same : level_at types rows (end_of types rows q) ≡ level_at types rows j = ap (level_at types rows) (let z : end_of types rows q ≡ j = omega arith in z) in omega arith)
            ])
      ]

  -- the first child of a row is a row of the type in its span, and the row is its parent
  pub record IsFirstChild (i code j : ℕ) : Type 0 where
    pub behind : i < j
    pub inside : j < end_of types rows i
    pub within : j < length rows
    pub parent : parent_row types rows j ≡ Some i
    pub code_is : (row_at rows j).code ≡ code

  pub child_is : (i code j : ℕ) → i < length rows → first_child types rows code i ≡ Some j → IsFirstChild i code j
  child_is i code j l is =
      let E = end_is types rows i l in
      let S = least_some (λ j. (row_at rows j).code == code && is_child types rows (Some i) j) (end_of types rows i - (i + 1)) (i + 1) j is in
      let a : i + 1 ≤ j = S.0 in
      let b : j < i + 1 + (end_of types rows i - (i + 1)) = S.1 in
      let w : end_of types rows i ≤ length rows = E.within in
      let T = and_parts ((row_at rows j).code == code) (is_child types rows (Some i) j) S.2 in
      record {
        behind = omega arith;
        inside = omega arith;
        within = omega arith;
        parent = one_option (parent_row types rows j) (Some i) T.1;
        code_is = eqb-true (row_at rows j).code code T.0;
      }

module _ (test admits : ℕ → Bool) (types : List SegmentType) (rows : List Segment) where
  pub joined : (a b c : ℕ) → NonePass test a b → NonePass test b c → NonePass test a c
  joined a b c x y j low high = elim (cases_lt j b) [ inl w ↦ x j low w | inr w ↦ y j w high ]

  -- rows whose parent is one have the same rows above
  pub above_same : (j k : ℕ) → parent_row types rows j ≡ parent_row types rows k → is_above_admitted admits types rows k ≡ true → is_above_admitted admits types rows j ≡ true
  above_same j k e h = ap (λ (o : Option ℕ). option_map_or (λ q. list_all admits (path_of types rows q)) o true) e ∙ h

  -- a parent's parents are admitted with those of its child
  pub above_parent : (k q : ℕ) → parent_row types rows k ≡ Some q → is_above_admitted admits types rows k ≡ true → is_above_admitted admits types rows q ≡ true
  above_parent k q e h = split (parent_row types rows q) refl
    where
      all : list_all admits (path_of types rows q) ≡ true
      all = sym (ap (λ (o : Option ℕ). option_map_or (λ q. list_all admits (path_of types rows q)) o true) e) ∙ h

      split : (o : Option ℕ) → parent_row types rows q ≡ o → option_map_or (λ p. list_all admits (path_of types rows p)) (parent_row types rows q) true ≡ true
      split None none = ap (λ (o : Option ℕ). option_map_or (λ p. list_all admits (path_of types rows p)) o true) none
      split (Some p) some =
          ap (λ (o : Option ℕ). option_map_or (λ p. list_all admits (path_of types rows p)) o true) some
          ∙ (and_parts (list_all admits (path_of types rows p)) _ (sym (list_all-append admits (path_of types rows p) (q ∷ []))
          ∙ sym (ap (list_all admits) (path_follows types rows q ∙ ap (λ (o : Option ℕ). option_map_or (λ p. path_of types rows p) o [] ++ q ∷ []) some)) ∙ all)).0

  -- a row that is admitted, with all above it: so is its path, and so are the rows above its children
  pub whole_admitted : (i : ℕ) → is_above_admitted admits types rows i ≡ true → admits i ≡ true → list_all admits (path_of types rows i) ≡ true
  whole_admitted i h own = ap (list_all admits) (path_follows types rows i) ∙ split (parent_row types rows i) refl
    where
      split : (o : Option ℕ) → parent_row types rows i ≡ o → list_all admits (option_map_or (λ p. path_of types rows p) (parent_row types rows i) [] ++ i ∷ []) ≡ true
      split None none = ap (λ (o : Option ℕ). list_all admits (option_map_or (λ p. path_of types rows p) o [] ++ i ∷ [])) none ∙ ap (λ b. b && true) own
      split (Some p) some =
          ap (λ (o : Option ℕ). list_all admits (option_map_or (λ p. path_of types rows p) o [] ++ i ∷ [])) some
          ∙ list_all-append admits (path_of types rows p) (i ∷ [])
          ∙ both _ _ (sym (ap (λ (o : Option ℕ). option_map_or (λ q. list_all admits (path_of types rows q)) o true) some) ∙ h) (ap (λ b. b && true) own)
        where
          both : (a b : Bool) → a ≡ true → b ≡ true → (a && b) ≡ true
          both true b x y = y
          both false b x y = cc

  pub above_child : (i j : ℕ) → parent_row types rows j ≡ Some i → is_above_admitted admits types rows i ≡ true → admits i ≡ true → is_above_admitted admits types rows j ≡ true
  above_child i j e h own = ap (λ (o : Option ℕ). option_map_or (λ q. list_all admits (path_of types rows q)) o true) e ∙ whole_admitted i h own

  pub above_all : ((k : ℕ) → admits k ≡ true) → (i : ℕ) → is_above_admitted admits types rows i ≡ true
  above_all h i = by (parent_row types rows i)
    where
      every : (xs : List ℕ) → list_all admits xs ≡ true
      every [] = refl
      every (x ∷ xs) = ap (λ b. b && list_all admits xs) (h x) ∙ every xs

      by : (o : Option ℕ) → option_map_or (λ q. list_all admits (path_of types rows q)) o true ≡ true
      by None = refl
      by (Some q) = every (path_of types rows q)

  -- A search across from row i has come up to row k: the span of row k has row i, none behind row i's span passes in it, and the rows
  -- above are admitted.
  pub record HasRisen (i k : ℕ) : Type 0 where
    pub low : k ≤ i
    pub high : i < end_of types rows k
    pub none : NonePass test (end_of types rows i) (end_of types rows k)
    pub above : is_above_admitted admits types rows k ≡ true

  pub begins : (i : ℕ) → i < length rows → is_above_admitted admits types rows i ≡ true → HasRisen i i
  begins i l h = record { low = omega arith; high = (end_is types rows i l).behind; none = λ j a b. absurd (omega arith); above = h }

  -- behind a row without a later twin the parent's rows end
  rest_none : (i k : ℕ) (o : Option ℕ) → parent_row types rows k ≡ o → HasRisen i k → NonePassAcross test types rows i → next_twin types rows k ≡ None
      → NonePass test (end_of types rows i) (end_below types rows o)
  rest_none i k o e R across none =
      joined (end_of types rows i) (end_of types rows k) (end_below types rows o) R.none
      (subst (λ n. NonePass test (end_of types rows k) n) (ap (λ (t : Option ℕ). unwrap_or t (end_below types rows (parent_row types rows k))) none ∙ ap (end_below types rows) e) (across k R.low R.high))

  pub rises : (i k p : ℕ) → i < length rows → HasRisen i k → NonePassAcross test types rows i → next_twin types rows k ≡ None → parent_row types rows k ≡ Some p → HasRisen i p
  rises i k p l R across none e =
      let low : k ≤ i = R.low in
      let P = parent_span types rows k p (omega arith) e in
      let a : p < k = P.0 in
      let b : end_of types rows k ≤ end_of types rows p = P.2 in
      let h : i < end_of types rows k = R.high in
      record { low = omega arith; high = omega arith; none = rest_none i k (Some p) e R across none; above = above_parent k p e R.above }

  pub tops : (i k : ℕ) → HasRisen i k → NonePassAcross test types rows i → next_twin types rows k ≡ None → parent_row types rows k ≡ None → NonePass test (end_of types rows i) (length rows)
  tops i k R across none e = rest_none i k None e R across none

  pub crosses : (i k j : ℕ) → i < length rows → HasRisen i k → NonePassAcross test types rows i → next_twin types rows k ≡ Some j
      → (end_of types rows i ≤ j) × NonePass test (end_of types rows i) j × (is_above_admitted admits types rows j ≡ true)
  crosses i k j l R across is =
      let low : k ≤ i = R.low in
      let T = twin_is types rows k j (omega arith) is in (
        (let n : end_of types rows i ≤ end_of types rows k = nested types rows k i low l R.high in let b : end_of types rows k ≤ j = T.behind in omega arith),
        joined (end_of types rows i) (end_of types rows k) j R.none
            (subst (λ n. NonePass test (end_of types rows k) n) (ap (λ (t : Option ℕ). unwrap_or t (end_below types rows (parent_row types rows k))) is) (across k R.low R.high)),
        above_same j k T.parent R.above,
      )
