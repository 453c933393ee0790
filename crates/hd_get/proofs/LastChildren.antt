-- The last child of a type: why none before it is asked for, and where its pointer leads.
use Rattle.std.proofs.Common.{◌≡◌, ◌≢◌, ℕ, zero, suc, ◌+◌, ◌-◌, ◌<◌, ◌≤◌, List, [], ◌∷◌, ◌++◌, length, Bool, true, false, Option, Some, None, refl, sym, ap, subst, ◌∙◌, arith, inl, inr}
use Rattle.std.specs.Prelude.{◌&&◌, ◌||◌, ◌==◌, not, nat_lt, is_none, is_some, option_and_then, unwrap_or}
use Rattle.std.specs.Option.{option_map_or}
use Rattle.std.specs.List.{list_any}
use Rattle.std.proofs.lemmas.Bool.{cases_lt, cond-true, lt-ltb, and_parts, and_from, or_cases, or_right, eq-eqb, eqb-true, ne_eqb, false≢true}
use Rattle.hd_dbd.specs.Types.{SegmentType}
use Rattle.hd_dbd.specs.Hierarchy.{parent_of, level_of}
use Rattle.hd_dbd.specs.Segment.{Segment}
use Rattle.hd_dbd.specs.Paths.{row_at, parent_row, end_of, is_twin}
use Rattle.hd_dbd.specs.Forest.{Forest}
use Rattle.hd_dbd.proofs.Fitting.{IsEarlier}
use Rattle.hd_dbd.proofs.LevelLaw.{Leveled, parents_earlier, typed}
use Rattle.hd_dbd.proofs.Names.{option_eq-Decides}
use Rattle.hd_links.specs.Links.{Links, is_child_type}
use Rattle.hd_links.specs.Placed.{Placed}
use Rattle.hd_links.specs.Pointers.{IsTwinAfter}
use Rattle.hd_links.specs.Steps.{rows_of, address_at, path_at, is_child_row, RowsHaveAddresses, StepsAreRows}
use Rattle.hd_forest.specs.Twins.{IsBehind}
use Rattle.hd_calls.specs.Ssas.{Ssa, target_code}
use Rattle.hd_calls.specs.Satisfies.{qualifies, is_last_so, meets, is_named, is_child}
use Rattle.hd_calls.specs.Gets.{first_child}
use Rattle.hd_calls.proofs.Searches.{least_some, least_no, least_passed}
use Rattle.hd_calls.proofs.Spans.{end_is}
use Rattle.hd_calls.specs.Admits.{NonePass, AreRowsOf, Descend, admits, meets_own, is_on_way}
use Rattle.hd_calls.specs.SearchWays.{way_down}
use Rattle.hd_calls.proofs.OnPaths.{levels_are, sequence_is, spans_parent, way_spans, child_under}
use Rattle.hd_calls.proofs.Resolving.{under_level}
use Rattle.hd_calls.proofs.Failing.{unnamed_by, spans_fail}
use Rattle.hd_calls.proofs.SearchWays.{down_found, down_parts}
use Rattle.hd_get.specs.Asking.{asks_last}
use Rattle.hd_calls.specs.SearchTwins.{next_twin}
use Rattle.hd_get.specs.Searches.{EndsAt, child_or_end, GoesOn, GoesToLast, IsWayBesideToLast, is_above_admitted}
use Rattle.hd_get.proofs.LastTwins.{has_unasked, last_so_unqualified}
use Rattle.hd_get.proofs.Spans.{nested, parent_span, twin_is, child_is, one_option, above_child, above_parent}
use Rattle.hd_get.proofs.Climbs.{path_is, child_same, child_none, child_some, twin_none, twin_some}
use Rattle.hd_get.proofs.Turns.{ends_within, parent_ends}

and_no : (b : Bool) → (b && false) ≡ false
and_no true = refl
and_no false = refl

-- the parent and the type of a child
pub child_parts : (types : List SegmentType) (rows : List Segment) (i code j : ℕ) → is_child_row types rows i code j ≡ true → (parent_row types rows j ≡ Some i) × ((row_at rows j).code ≡ code)
child_parts types rows i code j is =
    let P = and_parts _ ((row_at rows j).code == code) is in
    (one_option (parent_row types rows j) (Some i) P.0, eqb-true (row_at rows j).code code P.1)

child_from : (types : List SegmentType) (rows : List Segment) (i code j : ℕ) → parent_row types rows j ≡ Some i → (row_at rows j).code ≡ code → is_child_row types rows i code j ≡ true
child_from types rows i code j parent is = and_from _ _ ((option_eq-Decides (parent_row types rows j) (Some i)).1 parent) (eq-eqb (row_at rows j).code code is)

-- ---- by rows

-- what is said to be none is none
is_none_so : {A : Type 0} → (o : Option A) → is_none o ≡ true → o ≡ None
is_none_so None e = refl
is_none_so (Some x) e = cc

-- a row with a later twin does not meet an argument that asks for the last
unmet_before : (types : List SegmentType) (rows : List Segment) (k j : ℕ) → k < j → j < length rows → is_twin types rows k j ≡ true → (row_at rows k).code ≢ 1
    → (a : Ssa) → asks_last (row_at rows k).code a ≡ true → meets_own types rows k a ≡ false
unmet_before types rows k j before within twin other a asks =
    let P = and_parts (a.code == (row_at rows k).code && a.commands.last) (is_none a.groups) asks in
    let Q = and_parts (a.code == (row_at rows k).code) a.commands.last P.0 in
    let code : a.code ≡ (row_at rows k).code = eqb-true a.code (row_at rows k).code Q.0 in
    let later : is_last_so types rows a k ≡ false
    = last_so_unqualified types rows a k (is_none_so a.groups P.1)
    ∙ not_some _ (least_passed (λ x. is_twin types rows k x) (length rows - (k + 1)) (k + 1) j (omega arith) (omega arith) twin) in
    ap (λ b. not b || (qualifies a (row_at rows k) && (not a.commands.last || a.code == 1 || is_last_so types rows a k))) Q.0
    ∙ ap (λ b. qualifies a (row_at rows k) && (not b || a.code == 1 || is_last_so types rows a k)) Q.1
    ∙ ap (λ b. qualifies a (row_at rows k) && (b || is_last_so types rows a k)) (ne_eqb a.code 1 (λ z. other (sym code ∙ z)))
    ∙ ap (λ b. qualifies a (row_at rows k) && b) later
    ∙ and_no (qualifies a (row_at rows k))
  where
    not_some : (o : Option ℕ) → is_some o ≡ true → is_none o ≡ false
    not_some None e = cc
    not_some (Some x) e = refl

fails_one : (types : List SegmentType) (rows : List Segment) (k c : ℕ) → ((a : Ssa) → asks_last c a ≡ true → meets_own types rows k a ≡ false) → (ssas : List Ssa)
    → list_any (λ a. asks_last c a) ssas ≡ true → admits types rows ssas k ≡ false
fails_one types rows k c fails [] e = cc
fails_one types rows k c fails (a ∷ ssas) e = elim (or_cases (asks_last c a) (list_any (λ a. asks_last c a) ssas) e) [
  | inl here ↦ ap (λ b. b && admits types rows ssas k) (fails a here)
  | inr behind ↦ ap (λ b. meets_own types rows k a && b) (fails_one types rows k c fails ssas behind) ∙ and_no (meets_own types rows k a)
]

-- Where an argument asks for the last child of the type on the way down, no row is named before any child of that type.
pub none_before_children : (types : List SegmentType) (rows : List Segment) (ssas : List Ssa) (i c : ℕ) → AreRowsOf types rows → i < length rows
    → way_down types (target_code ssas) (row_at rows i).code ≡ Some c → list_any (λ a. asks_last c a) ssas ≡ true
    → (j : ℕ) → j < length rows → is_child_row types rows i c j ≡ true → NonePass (is_named types rows ssas) i j
none_before_children types rows ssas i c over within way asks j jw child r from to =
    unnamed_by types rows ssas r (λ e.
    let levels = levels_are types rows over in
    let D = down_parts types levels (target_code ssas) (row_at rows i).code c (down_found types levels (target_code ssas) (row_at rows i).code c way) in
    let J = child_parts types rows i c j child in
    let inside : j < end_of types rows i = (spans_parent types rows i j jw J.0).to in
    let rw_ : r < length rows = omega arith in
    let K = way_spans types rows over r c rw_ (subst (λ t. is_on_way types t c ≡ true) (sym e) D.1) in
    let s = K.1.spans in
    let up : K.0 ≤ r = s.from in
    let kw : K.0 < length rows = omega arith in
    let own : parent_of types (row_at rows K.0).code ≡ Some (row_at rows i).code = ap (parent_of types) K.1.code ∙ D.0 in
    let P = child_under types rows over i K.0 r rw_ (record { from = from; to = (let z : r < end_of types rows i = omega arith in z) }) s own in
    let twin : is_twin types rows K.0 j ≡ true
    = and_from _ _ (eq-eqb (row_at rows K.0).code (row_at rows j).code (K.1.code ∙ sym J.1)) ((option_eq-Decides (parent_row types rows K.0) (parent_row types rows j)).1 (P.0 ∙ sym J.0)) in
    spans_fail types rows ssas K.0 kw
    (fails_one types rows K.0 c (λ a z. unmet_before types rows K.0 j (omega arith) jw twin (no_root K.0 kw own) a (ap (λ x. asks_last x a) K.1.code ∙ z)) ssas asks) r s.from s.to)
  where
    -- a type with a parent is not the root
    no_root : (k : ℕ) → k < length rows → parent_of types (row_at rows k).code ≡ Some (row_at rows i).code → (row_at rows k).code ≢ 1
    no_root k kw own z =
        let T = typed types (row_at rows k) ((sequence_is types rows over).fit k kw) in
        let parent : T.0.parent ≡ Some (row_at rows i).code = ap (λ (o : Option SegmentType). option_and_then (λ (u : SegmentType). u.parent) o) (sym T.1) ∙ own in
        let early : (0 < (row_at rows i).code) × ((row_at rows i).code < (row_at rows k).code)
        = subst (λ (o : Option ℕ). IsEarlier o (row_at rows k).code) parent (parents_earlier over.block_size over.free_space types (row_at rows k).code T.0 over.formed T.1) in
        let low = early.0 in
        let high = early.1 in absurd (omega arith)

-- the type of what an argument asks the last of
asked_code : {c : ℕ} (a : Ssa) → asks_last c a ≡ true → a.code ≡ c
asked_code {c} a asks = eqb-true a.code c (and_parts (a.code == c) a.commands.last (and_parts (a.code == c && a.commands.last) (is_none a.groups) asks).0).0

-- the last twin meets an argument that asks for the last alone
met_by_last : (types : List SegmentType) (rows : List Segment) (j : ℕ) → next_twin types rows j ≡ None → (a : Ssa) → asks_last (row_at rows j).code a ≡ true → meets_own types rows j a ≡ true
met_by_last types rows j last a asks =
    let none = is_none_so a.groups (and_parts (a.code == (row_at rows j).code && a.commands.last) (is_none a.groups) asks).1 in
    or_right (not (a.code == (row_at rows j).code)) _ (and_from _ _ (has_unasked a (row_at rows j) none)
    (ap (λ b. not a.commands.last || a.code == 1 || b) (last_so_unqualified types rows a j none ∙ ap is_none last) ∙ one_is (not a.commands.last) (a.code == 1)))
  where
    one_is : (x y : Bool) → (x || y || true) ≡ true
    one_is true y = refl
    one_is false true = refl
    one_is false false = refl

module _ (types : List SegmentType) (levels : Leveled types) (rows : List Segment) (j c : ℕ) (own : (row_at rows j).code ≡ c) where
  -- an argument of a type of another level asks nothing of the row
  passes_other : (a : Ssa) → level_of types a.code ≢ level_of types c → meets_own types rows j a ≡ true
  passes_other a other = ap (λ b. not b || meets types rows a j) (ne_eqb a.code (row_at rows j).code (λ e. other (ap (level_of types) (e ∙ own))))

  -- nor do arguments of types below
  pass_below : (p : ℕ) (ssas : List Ssa) → level_of types c ≤ level_of types p → Descend types (Some p) ssas → admits types rows ssas j ≡ true
  pass_below p [] deep d = refl
  pass_below p (a ∷ ssas) deep d =
      let more : level_of types p < level_of types a.code = under_level types levels (level_of types a.code) a.code p d.0 in
      and_from _ _ (passes_other a (λ e. absurd (omega arith))) (pass_below a.code ssas (omega arith) d.1)

  -- a type that an argument below another's asks the last of is deeper
  deeper : (p : ℕ) (ssas : List Ssa) → Descend types (Some p) ssas → list_any (λ a. asks_last c a) ssas ≡ true → level_of types p < level_of types c
  deeper p [] d e = cc
  deeper p (a ∷ ssas) d e =
      let more : level_of types p < level_of types a.code = under_level types levels (level_of types a.code) a.code p d.0 in
      elim (or_cases (asks_last c a) (list_any (λ a. asks_last c a) ssas) e) [
        | inl here ↦ (let same : level_of types a.code ≡ level_of types c = ap (level_of types) (asked_code a here) in omega arith)
        | inr behind ↦ (let less : level_of types a.code < level_of types c = deeper a.code ssas d.1 behind in omega arith)
      ]

  -- Where an argument asks for the last twin of the type alone, that twin meets the arguments of its type.
  pub last_admitted : next_twin types rows j ≡ None → (above : Option ℕ) (ssas : List Ssa) → Descend types above ssas → list_any (λ a. asks_last c a) ssas ≡ true → admits types rows ssas j ≡ true
  last_admitted last above [] d e = cc
  last_admitted last above (a ∷ ssas) d e = elim (or_cases (asks_last c a) (list_any (λ a. asks_last c a) ssas) e) [
    | inl here ↦
        (let same : level_of types a.code ≡ level_of types c = ap (level_of types) (asked_code a here) in
        and_from _ _ (met_by_last types rows j last a (subst (λ x. asks_last x a ≡ true) (sym own) here)) (pass_below a.code ssas (omega arith) d.1))
    | inr behind ↦
        (let less : level_of types a.code < level_of types c = deeper a.code ssas d.1 behind in
        and_from _ _ (passes_other a (λ e. absurd (omega arith))) (last_admitted last (Some a.code) ssas d.1 behind))
  ]

-- no child of a type stands before the first one
pub first_before : (types : List SegmentType) (rows : List Segment) (q c j : ℕ) → q < j → j < end_of types rows q → is_child_row types rows q c j ≡ true → child_or_end types rows q c ≤ j
first_before types rows q c j low high child = by_first (first_child types rows c q) refl
  where
    passes : ((row_at rows j).code == c && is_child types rows (Some q) j) ≡ true
    passes = (let P = and_parts (is_child types rows (Some q) j) ((row_at rows j).code == c) child in and_from _ _ P.1 P.0)

    by_first : (o : Option ℕ) → first_child types rows c q ≡ o → unwrap_or o (end_of types rows q) ≤ j
    by_first None e =
        absurd (false≢true (sym (least_no (λ k. (row_at rows k).code == c && is_child types rows (Some q) k) (end_of types rows q - (q + 1)) (q + 1) e j (omega arith) (omega arith)) ∙ passes))
    by_first (Some t) e = elim (cases_lt j t) [
      | inl early ↦
          (let L = least_some (λ k. (row_at rows k).code == c && is_child types rows (Some q) k) (end_of types rows q - (q + 1)) (q + 1) t e in
          absurd (false≢true (sym (L.3 j (omega arith) early) ∙ passes)))
      | inr late ↦ late
    ]

-- ---- by pointers

module _ (types : List SegmentType) (m : Links) (f : Forest Placed) (A : RowsHaveAddresses m f) (steps : (i : ℕ) → i < length (rows_of f) → StepsAreRows types m f i) where
  starts : (n p a : ℕ) → IsTwinAfter m n p a → 0 < p
  starts zero p a T = T.0
  starts (suc n) p a T = T.0

  -- what is in the chain of twins from a child of a row is one
  chain_child : (i code n j : ℕ) → j < length (rows_of f) → is_child_row types (rows_of f) i code j ≡ true → (a : ℕ) → IsTwinAfter m n (address_at f j) a
      → (k : ℕ) × (k < length (rows_of f)) × (is_child_row types (rows_of f) i code k ≡ true) × (address_at f k ≡ a)
  chain_child i code zero j l is a T = (j, l, is, T.1)
  chain_child i code (suc n) j l is a T =
      let N = twin_some types m f j l (steps j l) (starts n (m.forward (address_at f j)) a T.1) in
      let W = twin_is types (rows_of f) j N.0 l N.1 in
      let S = least_some (λ k. is_twin types (rows_of f) j k) (length (rows_of f) - (j + 1)) (j + 1) N.0 N.1 in
      let J = child_parts types (rows_of f) i code j is in
      let same : (row_at (rows_of f) j).code ≡ (row_at (rows_of f) N.0).code = eqb-true _ _ (and_parts ((row_at (rows_of f) j).code == (row_at (rows_of f) N.0).code) _ S.2).0 in
      chain_child i code n N.0 W.within (child_from types (rows_of f) i code N.0 (W.parent ∙ J.0) (sym same ∙ J.1)) a
      (subst (λ x. IsTwinAfter m n x a) ((steps j l).twin ∙ ap (λ (o : Option ℕ). option_map_or (λ x. address_at f x) o 0) N.1) T.1)

  module _ (i code a : ℕ) (l : i < length (rows_of f)) (typed_ : is_child_type types (row_at (rows_of f) i).code code ≡ true) (behind : IsBehind m (m.first_child (address_at f i) code) a 0) where
    pub last_none : a ≡ 0 → first_child types (rows_of f) code i ≡ None
    last_none z = elim behind [
      | inl none ↦ child_none types m f A i code l (steps i l) typed_ none.1
      | inr some ↦ absurd (let s = some.0 in omega arith)
    ]

    pub last_some : 0 < a → (j : ℕ) × (j < length (rows_of f)) × (is_child_row types (rows_of f) i code j ≡ true) × (next_twin types (rows_of f) j ≡ None) × (path_at types f i ++ a ∷ [] ≡ path_at types f j)
    last_some s = elim behind [
      | inl none ↦ absurd (let z = none.0 in omega arith)
      | inr some ↦
          (let n : ℕ = some.1.0 in
          let first : 0 < m.first_child (address_at f i) code = starts n (m.first_child (address_at f i) code) a some.1.1 in
          let F = child_some types m f i code l (steps i l) typed_ first in
          let C = child_is types (rows_of f) i code F.0 l F.1 in
          let at : m.first_child (address_at f i) code ≡ address_at f F.0
          = (steps i l).first_child code typed_ ∙ ap (λ (o : Option ℕ). option_map_or (λ x. address_at f x) o 0) (child_same types m f i code l ∙ F.1) in
          let K = chain_child i code n F.0 C.within (child_from types (rows_of f) i code F.0 C.parent C.code_is) a (subst (λ x. IsTwinAfter m n x a) at some.1.1) in
          let P = child_parts types (rows_of f) i code K.0 K.2 in (
            K.0,
            K.1,
            K.2,
            twin_none types m f A K.0 K.1 (steps K.0 K.1) (ap m.forward K.3 ∙ some.2),
            ap (λ x. path_at types f i ++ x ∷ []) (sym K.3)
                ∙ ap (λ (o : Option ℕ). option_map_or (λ q. path_at types f q) o [] ++ address_at f K.0 ∷ []) (sym P.0)
                ∙ sym (path_is types f K.0),
          ))
    ]

-- ---- the turn

-- the search has gone down to a child, before which none passes
pub turned_to_child : (test admits : ℕ → Bool) (types : List SegmentType) (f : Forest Placed) (parent i end : ℕ) → EndsAt types f parent (i + 1) end → i < end
    → is_above_admitted admits types (rows_of f) i ≡ true → admits i ≡ true → (j : ℕ) → j < length (rows_of f) → parent_row types (rows_of f) j ≡ Some i → NonePass test i j
    → (path : List ℕ) → path ≡ path_at types f j → (on : GoesOn test admits types f end i path) × (on.number ≡ j)
turned_to_child test admits types f parent i end E inside up own j jw is none path at =
    let here : i < length (rows_of f) = (let w : end ≤ length (rows_of f) = ends_within types f parent (i + 1) end E in omega arith) in
    let P = parent_span types (rows_of f) j i jw is in
    let a : i < j = P.0 in
    let b : j < end_of types (rows_of f) i = (let x : j < end_of types (rows_of f) j = (end_is types (rows_of f) j jw).behind in let y : end_of types (rows_of f) j ≤ end_of types (rows_of f) i = P.2 in omega arith) in
    let before : j < end = elim (cases_lt 0 parent) [
      | inl under ↦
          (let Q = E.under under in
          let q : Q.0 < i + 1 = Q.1 in
          let e : end ≡ end_of types (rows_of f) Q.0 = Q.4 in
          let n : end_of types (rows_of f) i ≤ end_of types (rows_of f) Q.0 = nested types (rows_of f) Q.0 i (omega arith) here (omega arith) in omega arith)
      | inr nil ↦ (let e : end ≡ length (rows_of f) = E.whole (omega arith) in omega arith)
    ] in (
      record {
        number = j;
        later = a;
        none = none;
        above = λ z. above_child test admits types (rows_of f) i j is up own;
        is = at ∙ sym (cond-true (nat_lt j end) (path_at types f j) [] (lt-ltb j end before));
      },
      refl,
    )

-- the search has gone to a later child of the parent
pub turned_beside_to_last : (test admits : ℕ → Bool) (types : List SegmentType) (f : Forest Placed) (parent i end : ℕ) (E : EndsAt types f parent i end) (inside : i < end)
    (up : is_above_admitted admits types (rows_of f) i ≡ true) (code : ℕ) (path : List ℕ) (W : IsWayBesideToLast test admits types (rows_of f) i code)
    → GoesToLast types f parent W.parent code path → GoesOn test admits types f end i path
turned_beside_to_last test admits types f parent i end E inside up code path W goes =
    let within : i < length (rows_of f) = (let w : end ≤ length (rows_of f) = ends_within types f parent i end E in omega arith) in
    let pi : W.parent < i = (parent_span types (rows_of f) i W.parent within W.is).0 in
    let D = goes test admits end (parent_ends test admits types f parent i end E inside up W.parent W.is) (omega arith)
    (above_parent test admits types (rows_of f) i W.parent W.is up) W.to_last in
    let later : i < D.0.number = D.1 i W.later in
    record { number = D.0.number; later = later; none = λ j low high. D.0.none j (omega arith) high; above = D.0.above; is = D.0.is }
