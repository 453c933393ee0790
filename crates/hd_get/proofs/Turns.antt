-- The turns of a search.
use Rattle.std.proofs.Common.{◌≡◌, ℕ, suc, ◌+◌, ◌-◌, ◌<◌, ◌≤◌, List, [], ◌∷◌, ◌++◌, length, take, Bool, true, false, Option, Some, None, sym, ap, subst, ◌∙◌, arith, inl, inr}
use Rattle.std.specs.Prelude.{◌==◌, nat_lt, option_map, unwrap_or}
use Rattle.std.specs.Option.{option_map_or}
use Rattle.std.proofs.lemmas.Bool.{and_parts, cases_lt, cond-true, cond-false, lt-ltb, le-ltb}
use Rattle.hd_dbd.specs.Types.{SegmentType}
use Rattle.hd_dbd.specs.Paths.{row_at, parent_row, end_of, have_one_parent}
use Rattle.hd_dbd.specs.Searches.{first_from, least_within}
use Rattle.hd_dbd.specs.Forest.{Forest}
use Rattle.hd_links.specs.Placed.{Placed}
use Rattle.hd_links.specs.Steps.{rows_of, path_at}
use Rattle.hd_calls.specs.Gets.{first_child}
use Rattle.hd_calls.specs.Places.{end_below}
use Rattle.hd_calls.proofs.Searches.{least_none, skipped}
use Rattle.hd_calls.proofs.Spans.{end_is}
use Rattle.hd_calls.specs.Admits.{NonePass}
use Rattle.hd_get.specs.Searches.{EndsAt, path_within, is_above_admitted, child_or_end, NonePassAcross, AllAdmitted, IsWayDown, IsWayAcross, IsWayBeside, GoesAcross, GoesDown, GoesOn, GoesTo, IsFound}
use Rattle.hd_get.proofs.Spans.{one_option, nested, parent_span, parent_within, child_is, joined, above_same, above_parent, above_child, above_all}
use Rattle.hd_get.proofs.Climbs.{some_path, path_is, up_is}

-- ---- where a search ends

module _ (types : List SegmentType) (f : Forest Placed) (parent i end : ℕ) (E : EndsAt types f parent i end) where
  pub ends_within : end ≤ length (rows_of f)
  ends_within = elim (cases_lt 0 parent) [
    | inl some ↦ (let Q = E.under some in let e : end ≡ end_of types (rows_of f) Q.0 = Q.4 in let w : end_of types (rows_of f) Q.0 ≤ length (rows_of f) = (end_is types (rows_of f) Q.0 Q.2).within in omega arith)
    | inr none ↦ (let e : end ≡ length (rows_of f) = E.whole (omega arith) in omega arith)
  ]

  pub ends_later : (n : ℕ) → i ≤ n → EndsAt types f parent n end
  ends_later n w = record {
    whole = E.whole;
    under = λ some. (let Q = E.under some in let q : Q.0 < i = Q.1 in (Q.0, (let r : Q.0 < n = omega arith in r), Q.2, Q.3, Q.4));
  }

-- ---- one turn

module _ (test admits : ℕ → Bool) (types : List SegmentType) (f : Forest Placed) (parent i end : ℕ) (E : EndsAt types f parent (i + 1) end) (inside : i < end)
    (up : is_above_admitted admits types (rows_of f) i ≡ true) where
  here : i < length (rows_of f)
  here = (let w : end ≤ length (rows_of f) = ends_within types f parent (i + 1) end E in omega arith)

  span_behind : i < end_of types (rows_of f) i
  span_behind = (end_is types (rows_of f) i here).behind

  -- across, where the span fails
  pub turned_across : (path : List ℕ) → NonePass test i (end_of types (rows_of f) i) → NonePassAcross test types (rows_of f) i → GoesAcross types f parent i path
      → (on : GoesOn test admits types f end i path) × (end_of types (rows_of f) i ≤ on.number)
  turned_across path span across goes =
      let G = goes test admits (i + 1) end E (let r : i + 1 ≤ i + 1 = omega arith in r) inside across up in
      let a : i < end_of types (rows_of f) i = span_behind in
      let b : end_of types (rows_of f) i ≤ G.0 = G.1 in
      (record { number = G.0; later = omega arith; none = joined test admits types (rows_of f) i (end_of types (rows_of f) i) G.0 span G.2; above = G.3; is = G.4 }, b)

  -- down to a child, or across where there is none
  pub turned_aside : (code : ℕ) (path : List ℕ) → IsWayDown test admits types (rows_of f) i code → first_child types (rows_of f) code i ≡ None → GoesAcross types f parent i path
      → (on : GoesOn test admits types f end i path) × (child_or_end types (rows_of f) i code ≤ on.number)
  turned_aside code path W none goes =
      let is : child_or_end types (rows_of f) i code ≡ end_of types (rows_of f) i = ap (λ (o : Option ℕ). unwrap_or o (end_of types (rows_of f) i)) none in
      let T = turned_across path (subst (NonePass test i) is W.none) W.across goes in
      (T.0, (let b : end_of types (rows_of f) i ≤ T.0.number = T.1 in omega arith))

  pub turned_down : (code j : ℕ) (path : List ℕ) → IsWayDown test admits types (rows_of f) i code → first_child types (rows_of f) code i ≡ Some j → path ≡ path_at types f j
      → (on : GoesOn test admits types f end i path) × (child_or_end types (rows_of f) i code ≤ on.number)
  turned_down code j path W some is =
      let C = child_is types (rows_of f) i code j here some in
      let a : i < j = C.behind in
      let b : j < end_of types (rows_of f) i = C.inside in
      let w : j < length (rows_of f) = C.within in
      let before : j < end = elim (cases_lt 0 parent) [
        | inl under ↦
            (let Q = E.under under in
            let q : Q.0 < i + 1 = Q.1 in
            let e : end ≡ end_of types (rows_of f) Q.0 = Q.4 in
            let n : end_of types (rows_of f) i ≤ end_of types (rows_of f) Q.0 = nested types (rows_of f) Q.0 i (omega arith) here (omega arith) in omega arith)
        | inr none ↦ (let e : end ≡ length (rows_of f) = E.whole (omega arith) in omega arith)
      ] in
      let to : child_or_end types (rows_of f) i code ≡ j = ap (λ (o : Option ℕ). unwrap_or o (end_of types (rows_of f) i)) some in (
        record {
          number = j;
          later = a;
          none = subst (NonePass test i) to W.none;
          above = λ z. above_child test admits types (rows_of f) i j C.parent up W.admitted;
          is = is ∙ sym (cond-true (nat_lt j end) (path_at types f j) [] (lt-ltb j end before));
        },
        (omega arith),
      )

module _ (test admits : ℕ → Bool) (types : List SegmentType) (f : Forest Placed) (parent i end : ℕ) (E : EndsAt types f parent i end) (inside : i < end)
    (up : is_above_admitted admits types (rows_of f) i ≡ true) where
  within : i < length (rows_of f)
  within = (let w : end ≤ length (rows_of f) = ends_within types f parent i end E in omega arith)

  -- the parent's end is the search's too
  pub parent_ends : (p : ℕ) → parent_row types (rows_of f) i ≡ Some p → EndsAt types f parent (p + 1) end
  parent_ends p e = record {
    whole = E.whole;
    under = λ some. (let Q = E.under some in
        let q : Q.0 < i = Q.1 in
        let qe : end ≡ end_of types (rows_of f) Q.0 = Q.4 in
        let W = parent_within types (rows_of f) Q.0 i q within (omega arith) in
        let low : Q.0 ≤ W.0 = W.2 in
        let same : W.0 ≡ p = one (sym W.1 ∙ e) in (Q.0, (let r : Q.0 < p + 1 = omega arith in r), Q.2, Q.3, Q.4));
  }
    where
      one : {a b : ℕ} → Some a ≡ Some b → a ≡ b
      one z = cc

  -- to a later twin
  pub turned_to_twin : (a : ℕ) (path : List ℕ) → IsWayAcross test types f i a → path ≡ take (length (path_at types f i) - 1) (path_at types f i) ++ a ∷ [] → GoesOn test admits types f end i path
  turned_to_twin a path W is =
      let same : parent_row types (rows_of f) W.twin ≡ parent_row types (rows_of f) i
      = sym (one_option (parent_row types (rows_of f) i) (parent_row types (rows_of f) W.twin) (and_parts ((row_at (rows_of f) i).code == (row_at (rows_of f) W.twin).code) (have_one_parent types (rows_of f) i W.twin) W.is).1) in
      let tw : W.twin < length (rows_of f) = W.within in
      let own : W.twin < end_of types (rows_of f) W.twin = (end_is types (rows_of f) W.twin W.within).behind in
      let before : W.twin < end = elim (cases_lt 0 parent) [
        | inl some ↦
            (let Q = E.under some in
            let q : Q.0 < i = Q.1 in
            let e : end ≡ end_of types (rows_of f) Q.0 = Q.4 in
            let P = parent_within types (rows_of f) Q.0 i q within (omega arith) in
            let up_ : parent_row types (rows_of f) W.twin ≡ Some P.0 = same ∙ P.1 in
            let S = parent_span types (rows_of f) W.twin P.0 W.within up_ in
            let T = parent_span types (rows_of f) i P.0 within P.1 in
            let low : Q.0 ≤ P.0 = P.2 in
            let pi : P.0 < i = T.0 in
            let il : i < length (rows_of f) = within in
            let ii : i < end_of types (rows_of f) i = (end_is types (rows_of f) i within).behind in
            let b : end_of types (rows_of f) W.twin ≤ end_of types (rows_of f) P.0 = S.2 in
            let n : end_of types (rows_of f) P.0 ≤ end_of types (rows_of f) Q.0 = nested types (rows_of f) Q.0 P.0 low (omega arith) (omega arith) in omega arith)
        | inr none ↦ (let e : end ≡ length (rows_of f) = E.whole (omega arith) in omega arith)
      ] in
      record {
        number = W.twin;
        later = W.later;
        none = W.none;
        above = λ z. above_same test admits types (rows_of f) W.twin i same up;
        is = is
            ∙ ap (λ (xs : List ℕ). xs ++ a ∷ []) (up_is types f i)
            ∙ ap (λ (o : Option ℕ). option_map_or (λ q. path_at types f q) o [] ++ a ∷ []) (sym same)
            ∙ ap (λ x. option_map_or (λ q. path_at types f q) (parent_row types (rows_of f) W.twin) [] ++ x ∷ []) (sym W.address)
            ∙ sym (path_is types f W.twin)
            ∙ sym (cond-true (nat_lt W.twin end) (path_at types f W.twin) [] (lt-ltb W.twin end before));
      }

  -- to a later child of the parent
  pub turned_beside : (code : ℕ) (path : List ℕ) (W : IsWayBeside test admits types (rows_of f) i code) → GoesDown types f parent W.parent code path → GoesOn test admits types f end i path
  turned_beside code path W goes =
      let pi : W.parent < i = (parent_span types (rows_of f) i W.parent within W.is).0 in
      let D = goes test admits end (parent_ends W.parent W.is) (omega arith) (above_parent test admits types (rows_of f) i W.parent W.is up) W.down in
      let later : i < child_or_end types (rows_of f) W.parent code = W.later in
      let behind : child_or_end types (rows_of f) W.parent code ≤ D.0.number = D.1 in
      record { number = D.0.number; later = omega arith; none = λ j low high. D.0.none j (omega arith) high; above = D.0.above; is = D.0.is }

  -- over the rest of the parent's rows
  pub turned_up : (p : ℕ) (path : List ℕ) → parent_row types (rows_of f) i ≡ Some p → NonePass test i (end_below types (rows_of f) (parent_row types (rows_of f) i)) → NonePassAcross test types (rows_of f) i
      → GoesAcross types f parent p path → GoesOn test admits types f end i path
  turned_up p path e rest across goes =
      let P = parent_span types (rows_of f) i p within e in
      let pi : p < i = P.0 in
      let ends : end_of types (rows_of f) i ≤ end_of types (rows_of f) p = P.2 in
      let own : i < end_of types (rows_of f) i = (end_is types (rows_of f) i within).behind in
      let pl : p < length (rows_of f) = (let l : i < length (rows_of f) = within in omega arith) in
      let G = goes test admits (p + 1) end (parent_ends p e) (let r : p + 1 ≤ p + 1 = omega arith in r) (omega arith)
      (λ k low high. (let n : end_of types (rows_of f) p ≤ end_of types (rows_of f) k = nested types (rows_of f) k p low pl high in across k (omega arith) (omega arith)))
      (above_parent test admits types (rows_of f) i p e up) in
      let b : end_of types (rows_of f) p ≤ G.0 = G.1 in
      record {
        number = G.0;
        later = omega arith;
        none = joined test admits types (rows_of f) i (end_of types (rows_of f) p) G.0 (subst (NonePass test i) (ap (end_below types (rows_of f)) e) rest) G.2;
        above = G.3;
        is = G.4;
      }

  pub turned_out : (path : List ℕ) → parent_row types (rows_of f) i ≡ None → NonePass test i (end_below types (rows_of f) (parent_row types (rows_of f) i)) → path ≡ [] → GoesOn test admits types f end i path
  turned_out path e rest is =
      let all : end ≡ length (rows_of f) = elim (cases_lt 0 parent) [
        | inl some ↦
            (let Q = E.under some in
            let q : Q.0 < i = Q.1 in
            let qe : end ≡ end_of types (rows_of f) Q.0 = Q.4 in
            let W = parent_within types (rows_of f) Q.0 i q within (omega arith) in absurd (apart (sym e ∙ W.1)))
        | inr none ↦ E.whole (omega arith)
      ] in
      record {
        number = end;
        later = inside;
        none = subst (NonePass test i) (ap (end_below types (rows_of f)) e ∙ sym all) rest;
        above = λ z. absurd (omega arith);
        is = is ∙ sym (cond-false (nat_lt end end) (path_at types f end) [] (le-ltb end end (omega arith)));
      }
    where
      apart : {a : ℕ} → None ≡ Some a → ⊥
      apart z = cc

  -- to a later row, where every row is admitted
  pub turned_to : (n : ℕ) (path : List ℕ) → i < n → NonePass test i n → AllAdmitted admits → GoesTo types f parent i n path → GoesOn test admits types f end i path
  turned_to n path w none all goes = record { number = n; later = w; none = none; above = λ z. above_all test admits types (rows_of f) all n; is = goes end E }

-- ---- all turns

-- The search from row i on has come, after so many turns, to a row or its end, and none on the way passes.
pub record HasSearched (test admits : ℕ → Bool) (types : List SegmentType) (f : Forest Placed) (parent i end turns : ℕ) (path : List ℕ) : Type 0 where
  pub number : ℕ
  pub further : i + turns ≤ number
  pub none : NonePass test i number
  pub above : number < end → is_above_admitted admits types (rows_of f) number ≡ true
  pub is : path ≡ path_within types f end number

-- none on the way and none behind
pub none_from : (test : ℕ → Bool) (i n : ℕ) → NonePass test i n → first_from test i n ≡ None
none_from test i n none = least_none test (n - i) i (λ j a b. none j a (omega arith))

pub here_from : (test : ℕ → Bool) (i k n : ℕ) → i ≤ k → k < n → NonePass test i k → test k ≡ true → first_from test i n ≡ Some k
here_from test i k n a b none is =
    skipped test i k n a none
    ∙ ap (λ d. least_within test d k) (let e : n - k ≡ suc (n - k - 1) = omega arith in e)
    ∙ cond-true (test k) (Some k) (least_within test (n - k - 1) (k + 1)) is

module _ (test admits : ℕ → Bool) (types : List SegmentType) (f : Forest Placed) (parent i end : ℕ) where
  pub search_begins : (path : List ℕ) → path ≡ path_within types f end i → (i < end → is_above_admitted admits types (rows_of f) i ≡ true) → HasSearched test admits types f parent i end 0 path
  search_begins path is up = record { number = i; further = omega arith; none = λ j a b. absurd (omega arith); above = up; is = is }

  module _ (turns : ℕ) (path : List ℕ) (S : HasSearched test admits types f parent i end turns path) where
    pub search_goes_on : (new : List ℕ) → GoesOn test admits types f end S.number new → HasSearched test admits types f parent i end (turns + 1) new
    search_goes_on new G = record {
      number = G.number;
      further = (let a : i + turns ≤ S.number = S.further in let b : S.number < G.number = G.later in omega arith);
      none = joined test admits types (rows_of f) i S.number G.number S.none G.none;
      above = G.above;
      is = G.is;
    }

    pub search_finds : (new : List ℕ) → S.number < end → test S.number ≡ true → new ≡ path_at types f S.number → IsFound test types f end i true new
    search_finds new w is e =
        ap (λ (p : List ℕ). Some p) e
        ∙ sym (ap (option_map (λ j. path_at types f j)) (here_from test i S.number end (let a : i + turns ≤ S.number = S.further in omega arith) w S.none is))

    pub search_ends : (new : List ℕ) → end ≤ S.number → IsFound test types f end i false new
    search_ends new w = sym (ap (option_map (λ j. path_at types f j)) (none_from test i end (λ j a b. S.none j a (omega arith))))

    -- an empty path is past the end, and another before it
    pub search_out : length path ≡ 0 → end ≤ S.number
    search_out z = elim (cases_lt S.number end) [
      | inl w ↦ absurd (
          let some : 0 < length (path_at types f S.number) = some_path types f S.number in
          let e : length path ≡ length (path_at types f S.number) = ap (λ (xs : List ℕ). length xs) (S.is ∙ cond-true (nat_lt S.number end) (path_at types f S.number) [] (lt-ltb S.number end w)) in omega arith)
      | inr w ↦ w
    ]

    pub search_in : 0 < length path → (S.number < end) × (path ≡ path_at types f S.number)
    search_in some = elim (cases_lt S.number end) [
      | inl w ↦ (w, S.is ∙ cond-true (nat_lt S.number end) (path_at types f S.number) [] (lt-ltb S.number end w))
      | inr w ↦ absurd (let e : length path ≡ 0 = ap (λ (xs : List ℕ). length xs) (S.is ∙ cond-false (nat_lt S.number end) (path_at types f S.number) [] (le-ltb S.number end w)) in omega arith)
    ]
