-- Rows in the span of a row, and the row of a type on a path.
use Rattle.std.proofs.Common.{◌≡◌, ℕ, zero, suc, ◌+◌, ◌<◌, ◌≤◌, List, [], ◌∷◌, length, true, false, Bool, cond, arith, ap, sym, ◌∙◌, subst, Option, Some, None, refl, inl, inr, ◌⊎◌}
use Rattle.std.specs.Prelude.{nat_lt, nat_le, ◌==◌, ◌||◌, ◌&&◌, find, option_map, option_and_then, is_none}
use Rattle.std.specs.Option.{option_map_or}
use Rattle.std.specs.List.{list_any}
use Rattle.std.proofs.lemmas.Bool.{cases_lt, cases_eq, ne_eqb, cases_Bool, cond-true, cond-false, lt-ltb, le-ltb, le-leb, leb-true, ltb-true, and_parts, eq-eqb, eqb-true, false≢true, and_from, or_cases, or_left, or_right}
use Rattle.hd_dbd.specs.Types.{SegmentType}
use Rattle.hd_dbd.specs.Hierarchy.{level_of, parent_of, is_under, is_under_within}
use Rattle.hd_dbd.specs.DatabaseRules.{level_fits, parent_fits, type_fits}
use Rattle.hd_dbd.specs.Segment.{Segment}
use Rattle.hd_dbd.specs.Paths.{row_at, level_at, nearest_above, parent_row, path_of, end_of}
use Rattle.hd_dbd.specs.Laws.{IsInSequence}
use Rattle.hd_dbd.proofs.InSequence.{in_sequence}
use Rattle.hd_dbd.proofs.Fitting.{type_of-fits, types_fit}
use Rattle.hd_dbd.proofs.LevelLaw.{Leveled, leveled, depth_below, typed}
use Rattle.hd_calls.specs.Satisfies.{on_path}
use Rattle.hd_calls.proofs.Spans.{IsEnd, end_is, nearest_is}
use Rattle.hd_calls.proofs.PathSpans.{spans_below}
use Rattle.hd_calls.proofs.SoundGets.{IsOn, on_is, found_passes}
use Rattle.hd_calls.specs.Admits.{is_on_way, AreRowsOf}

-- ---- rows of a database

pub levels_are : (types : List SegmentType) (rows : List Segment) → AreRowsOf types rows → Leveled types
levels_are types rows over = leveled over.block_size over.free_space types over.formed

pub sequence_is : (types : List SegmentType) (rows : List Segment) → AreRowsOf types rows → IsInSequence types rows
sequence_is types rows over = in_sequence types (levels_are types rows over) rows over.fit

-- ---- spans

-- Row i is in the span of row k.
pub record Spans (types : List SegmentType) (rows : List Segment) (k i : ℕ) : Type 0 where
  pub from : k ≤ i
  pub to : i < end_of types rows k

pub spans_self : (types : List SegmentType) (rows : List Segment) (i : ℕ) → i < length rows → Spans types rows i i
spans_self types rows i within = (let E = end_is types rows i within in record { from = omega arith; to = E.behind })

-- what is in a span is a row
pub spanned_within : (types : List SegmentType) (rows : List Segment) (k i : ℕ) → k < length rows → i < end_of types rows k → i < length rows
spanned_within types rows k i within to = (let E = end_is types rows k within in let most : end_of types rows k ≤ length rows = E.within in omega arith)

-- a row of a span is no higher than the span's
pub spanned_level : (types : List SegmentType) (rows : List Segment) (k i : ℕ) → k < length rows → Spans types rows k i → level_at types rows k ≤ level_at types rows i
spanned_level types rows k i within s = elim (cases_lt k i) [
  | inl w ↦ (let E = end_is types rows k within in let deep : level_at types rows k < level_at types rows i = E.deeper i (omega arith) s.to in omega arith)
  | inr w ↦ (let from : k ≤ i = s.from in let e : level_at types rows k ≡ level_at types rows i = ap (level_at types rows) (let z : k ≡ i = omega arith in z) in omega arith)
]

-- the span of a row in a span lies in it
pub spans_trans : (types : List SegmentType) (rows : List Segment) (k q i : ℕ) → i < length rows → Spans types rows k q → Spans types rows q i → Spans types rows k i
spans_trans types rows k q i within upper lower = record {
  from = (let a : k ≤ q = upper.from in let b : q ≤ i = lower.from in omega arith);
  to = elim (cases_lt i (end_of types rows k)) [
    | inl w ↦ w
    | inr w ↦ absurd (past w (end_is types rows k (omega (arith, upper.from, lower.from))).next)
  ];
}
  where
    past : end_of types rows k ≤ i → (end_of types rows k ≡ length rows) ⊎ (level_at types rows (end_of types rows k) ≤ level_at types rows k) → ⊥
    past w (inl all) = absurd (omega arith)
    past w (inr shallow) =
        let kw : k < length rows = omega (arith, upper.from, lower.from) in
        let E = end_is types rows q (omega (arith, lower.from)) in
        let deep : level_at types rows q < level_at types rows (end_of types rows k) = E.deeper (end_of types rows k) (omega (arith, upper.to)) (omega (arith, lower.to)) in
        let high : level_at types rows k ≤ level_at types rows q = spanned_level types rows k q kw upper in
        absurd (omega arith)

-- a row is in its parent's span
pub spans_parent : (types : List SegmentType) (rows : List Segment) (q i : ℕ) → i < length rows → parent_row types rows i ≡ Some q → Spans types rows q i
spans_parent types rows q i within is =
    let N = nearest_is types rows (level_at types rows i) i q is in
    record {
      from = (let u : q < i = N.0 in omega arith);
      to = elim (cases_lt i (end_of types rows q)) [
        | inl w ↦ w
        | inr w ↦ absurd (past w N.0 N.1 N.2 (end_is types rows q (omega (arith, N.0))))
      ];
    }
  where
    past : end_of types rows q ≤ i → q < i → level_at types rows q < level_at types rows i → ((j : ℕ) → q < j → j < i → level_at types rows i ≤ level_at types rows j)
        → IsEnd types rows q (end_of types rows q) → ⊥
    past w u low between E = by_next E.next
      where
        by_next : (end_of types rows q ≡ length rows) ⊎ (level_at types rows (end_of types rows q) ≤ level_at types rows q) → ⊥
        by_next (inl all) = absurd (omega arith)
        by_next (inr shallow) = elim (cases_lt (end_of types rows q) i) [
          | inl v ↦ (let deep : level_at types rows i ≤ level_at types rows (end_of types rows q) = between (end_of types rows q) (omega (arith, E.behind)) v in absurd (omega arith))
          | inr v ↦ (let same : level_at types rows (end_of types rows q) ≡ level_at types rows i = ap (level_at types rows) (let z : end_of types rows q ≡ i = omega arith in z) in absurd (omega arith))
        ]

nearest_from : (types : List SegmentType) (rows : List Segment) (l n j : ℕ) → n < j → level_at types rows n < l → (q : ℕ) × (nearest_above types rows l j ≡ Some q) × (n ≤ q) × (q < j)
nearest_from types rows l n zero before high = absurd (omega arith)
nearest_from types rows l n (suc j) before high = elim (cases_lt (level_at types rows j) l) [
  | inl above ↦ (j, cond-true (nat_lt (level_at types rows j) l) (Some j) (nearest_above types rows l j) (lt-ltb (level_at types rows j) l above), omega arith, omega arith)
  | inr under ↦
      (let less : n < j = elim (cases_lt n j) [ inl w ↦ w | inr w ↦ (let e : level_at types rows n ≡ level_at types rows j = ap (level_at types rows) (let s : n ≡ j = omega arith in s) in absurd (omega arith)) ] in
      let I = nearest_from types rows l n j less high in
      let b : I.0 < j = I.3 in
      (I.0, cond-false (nat_lt (level_at types rows j) l) (Some j) (nearest_above types rows l j) (le-ltb (level_at types rows j) l under) ∙ I.1, I.2, omega arith))
]

-- A row below another has a parent in the other's span.
pub record IsStep (types : List SegmentType) (rows : List Segment) (k i : ℕ) : Type 0 where
  pub parent : ℕ
  pub is : parent_row types rows i ≡ Some parent
  pub before : parent < i
  pub spans : Spans types rows k parent

pub spans_step : (types : List SegmentType) (rows : List Segment) (k i : ℕ) → i < length rows → k < i → Spans types rows k i → IsStep types rows k i
spans_step types rows k i within below s =
    let E = end_is types rows k (omega arith) in
    let deep : level_at types rows k < level_at types rows i = E.deeper i (omega arith) s.to in
    let N = nearest_from types rows (level_at types rows i) k i below deep in
    record { parent = N.0; is = N.1; before = N.3; spans = record { from = N.2; to = omega (arith, N.3, s.to) } }

-- of two rows of one level only one spans a row
pub one_spans : (types : List SegmentType) (rows : List Segment) (k j i : ℕ) → i < length rows → Spans types rows k i → Spans types rows j i
    → level_at types rows k ≡ level_at types rows j → k ≡ j
one_spans types rows k j i within one two level_is = elim (cases_lt k j) [
  | inl less ↦ absurd (apart k j one two level_is less)
  | inr more ↦ elim (cases_lt j k) [
    | inl less ↦ absurd (apart j k two one (sym level_is) less)
    | inr same ↦ omega arith
  ]
]
  where
    apart : (k j : ℕ) → Spans types rows k i → Spans types rows j i → level_at types rows k ≡ level_at types rows j → k < j → ⊥
    apart k j one two level_is less =
        let E = end_is types rows k (omega (arith, one.from)) in
        let deep : level_at types rows k < level_at types rows j = E.deeper j (omega arith) (omega (arith, two.from, one.to)) in
        absurd (omega arith)

-- ---- paths

-- the row is on a path
abbrev pub has : ℕ → List ℕ → Bool
has k xs = list_any (λ j. j == k) xs

pub spans_on : (types : List SegmentType) (rows : List Segment) (k i : ℕ) → i < length rows → Spans types rows k i → has k (path_of types rows i) ≡ true
spans_on types rows k i within s =
    spans_below types rows k i within ∙ and_from (nat_le k i) _ (le-leb k i s.from) (lt-ltb i (end_of types rows k) s.to)

-- of the rows of a path only one is of a type
pub one_on_path : (types : List SegmentType) (rows : List Segment) (i x k : ℕ) → i < length rows → has x (path_of types rows i) ≡ true → Spans types rows k i
    → (row_at rows x).code ≡ (row_at rows k).code → x ≡ k
one_on_path types rows i x k within on s code =
    let both = and_parts (nat_le x i) (nat_lt i (end_of types rows x)) (sym (spans_below types rows x i within) ∙ on) in
    one_spans types rows x k i within (record { from = leb-true x i both.0; to = ltb-true i (end_of types rows x) both.1 }) s (ap (level_of types) code)

find_member : (test : ℕ → Bool) (xs : List ℕ) (k : ℕ) → has k xs ≡ true → test k ≡ true → (j : ℕ) × (find test xs ≡ Some j)
find_member test [] k is passes = cc
find_member test (x ∷ xs) k is passes = elim (cases_Bool (test x)) [
  | inl here ↦ (x, cond-true (test x) (Some x) (find test xs) here)
  | inr none ↦ elim (or_cases (x == k) (has k xs) is) [
    | inl same ↦ absurd (false≢true (sym none ∙ ap test (eqb-true x k same) ∙ passes))
    | inr behind ↦ (let I = find_member test xs k behind passes in (I.0, cond-false (test x) (Some x) (find test xs) none ∙ I.1))
  ]
]

-- The row of a type on a path: it is of the type, and spans the path's last row.
pub record IsOnPath (types : List SegmentType) (rows : List Segment) (c i k : ℕ) : Type 0 where
  pub code : (row_at rows k).code ≡ c
  pub spans : Spans types rows k i

pub on_path_is : (types : List SegmentType) (rows : List Segment) (c i k : ℕ) → i < length rows → on_path types rows c i ≡ Some k → IsOnPath types rows c i k
on_path_is types rows c i k within on =
    let found : IsOn types rows i (level_of types c) k = on_is types rows c i k within on in
    record {
      code = eqb-true (row_at rows k).code c (found_passes (λ j. (row_at rows j).code == c) (path_of types rows i) k on);
      spans = record { from = found.from; to = found.to };
    }

pub on_path_of : (types : List SegmentType) (rows : List Segment) (c i k : ℕ) → i < length rows → Spans types rows k i → (row_at rows k).code ≡ c → on_path types rows c i ≡ Some k
on_path_of types rows c i k within s code =
    let F = find_member (λ j. (row_at rows j).code == c) (path_of types rows i) k (spans_on types rows k i within s) (eq-eqb (row_at rows k).code c code) in
    let found : IsOnPath types rows c i F.0 = on_path_is types rows c i F.0 within F.1 in
    let same : F.0 ≡ k = one_spans types rows F.0 k i within found.spans s (ap (level_of types) (found.code ∙ sym code)) in
    F.1 ∙ ap (λ (x : ℕ). Some x) same

-- ---- types on a path

module _ (types : List SegmentType) (rows : List Segment) (over : AreRowsOf types rows) where
  pub parent_code : (i q : ℕ) → i < length rows → parent_row types rows i ≡ Some q → parent_of types (row_at rows i).code ≡ Some (row_at rows q).code
  parent_code i q within is = sym ((sequence_is types rows over).parents i within) ∙ ap (option_map (λ j. (row_at rows j).code)) is

  -- a row's level is one more than its parent's
  pub level_below : (i q : ℕ) → i < length rows → parent_row types rows i ≡ Some q → level_at types rows i ≡ level_at types rows q + 1
  level_below i q within is =
      (levels_are types rows over).law (row_at rows i) ((sequence_is types rows over).fit i within) ∙ ap (λ o. depth_below types o + 1) (parent_code i q within is)

  pub level_top : (i : ℕ) → i < length rows → parent_row types rows i ≡ None → level_at types rows i ≡ 1
  level_top i within is =
      (levels_are types rows over).law (row_at rows i) ((sequence_is types rows over).fit i within)
      ∙ ap (λ o. depth_below types o + 1) (sym ((sequence_is types rows over).parents i within) ∙ ap (option_map (λ j. (row_at rows j).code)) is)

  pub some_level : (i : ℕ) → i < length rows → 0 < level_at types rows i
  some_level i within =
      (let law : level_at types rows i ≡ depth_below types (parent_of types (row_at rows i).code) + 1 = (levels_are types rows over).law (row_at rows i) ((sequence_is types rows over).fit i within) in omega arith)

  -- a row whose type depends on another is in the span of a row of the other
  under_spans : (n i above : ℕ) → i < length rows → is_under_within types n (row_at rows i).code above ≡ true → (k : ℕ) × IsOnPath types rows above i k
  under_spans zero i above within u = cc
  under_spans (suc n) i above within u = by_parent (parent_row types rows i) refl (λ q w v. under_spans n q above w v)
    where
      by_parent : (o : Option ℕ) → parent_row types rows i ≡ o
          → ((q : ℕ) → q < length rows → is_under_within types n (row_at rows q).code above ≡ true → (k : ℕ) × IsOnPath types rows above q k)
          → (k : ℕ) × IsOnPath types rows above i k
      by_parent None e more =
          (let none : parent_of types (row_at rows i).code ≡ None = sym ((sequence_is types rows over).parents i within) ∙ ap (option_map (λ j. (row_at rows j).code)) e in
          absurd (false≢true (sym (ap (λ o. option_map_or (λ p. p == above || is_under_within types n p above) o false) none) ∙ u)))
      by_parent (Some q) e more =
          let up : Spans types rows q i = spans_parent types rows q i within e in
          let w : q < length rows = omega (arith, up.from) in
          let is : ((row_at rows q).code == above || is_under_within types n (row_at rows q).code above) ≡ true
          = sym (ap (λ o. option_map_or (λ p. p == above || is_under_within types n p above) o false) (parent_code i q within e)) ∙ u in
          elim (or_cases ((row_at rows q).code == above) (is_under_within types n (row_at rows q).code above) is) [
            | inl t ↦ (q, record { code = eqb-true (row_at rows q).code above t; spans = up })
            | inr v ↦ (let I = more q w v in (I.0, record { code = I.1.code; spans = spans_trans types rows I.0 q i within I.1.spans up }))
          ]

  -- so has a row whose type another is on the way to
  pub way_spans : (i c : ℕ) → i < length rows → is_on_way types (row_at rows i).code c ≡ true → (k : ℕ) × IsOnPath types rows c i k
  way_spans i c within way = elim (or_cases ((row_at rows i).code == c) (is_under types (row_at rows i).code c) way) [
    | inl t ↦ (i, record { code = eqb-true (row_at rows i).code c t; spans = spans_self types rows i within })
    | inr u ↦ under_spans (level_of types (row_at rows i).code) i c within u
  ]

  under_way : (n i k : ℕ) → level_at types rows i ≤ n → i < length rows → Spans types rows k i
      → ((row_at rows i).code == (row_at rows k).code || is_under_within types n (row_at rows i).code (row_at rows k).code) ≡ true
  under_way zero i k few within s = absurd (omega (arith, some_level i within))
  under_way (suc n) i k few within s = elim (cases_lt k i) [
    | inr here ↦ or_left ((row_at rows i).code == (row_at rows k).code) _
        (eq-eqb (row_at rows i).code (row_at rows k).code (ap (λ (j : ℕ). (row_at rows j).code) (let z : i ≡ k = omega (arith, s.from) in z)))
    | inl below ↦
        (let S : IsStep types rows k i = spans_step types rows k i within below s in
        let up : level_at types rows i ≡ level_at types rows S.parent + 1 = level_below i S.parent within S.is in
        let I = under_way n S.parent k (omega arith) (omega (arith, S.before)) S.spans in
        or_right ((row_at rows i).code == (row_at rows k).code) _
        (ap (λ o. option_map_or (λ p. p == (row_at rows k).code || is_under_within types n p (row_at rows k).code) o false) (parent_code i S.parent within S.is) ∙ I))
  ]

  -- the type of a row that spans another is on the way to the other's
  pub spans_way : (i k : ℕ) → i < length rows → Spans types rows k i → is_on_way types (row_at rows i).code (row_at rows k).code ≡ true
  spans_way i k within s = under_way (level_at types rows i) i k (omega arith) within s

  -- A row whose type's parent is that of a row that spans it with another has that row as its parent.
  pub child_under : (i k j : ℕ) → j < length rows → Spans types rows i j → Spans types rows k j → parent_of types (row_at rows k).code ≡ Some (row_at rows i).code
      → (parent_row types rows k ≡ Some i) × (i < k)
  child_under i k j within upper lower own = by_parent (parent_row types rows k) refl
    where
      kw : k < length rows
      kw = omega (arith, lower.from)

      by_parent : (o : Option ℕ) → parent_row types rows k ≡ o → (o ≡ Some i) × (i < k)
      by_parent None e =
          (let none : parent_of types (row_at rows k).code ≡ None = sym ((sequence_is types rows over).parents k kw) ∙ ap (option_map (λ j. (row_at rows j).code)) e in
          let wrong : None ≡ Some (row_at rows i).code = sym none ∙ own in cc)
      by_parent (Some q) e =
          (let N = nearest_is types rows (level_at types rows k) k q e in
          let same : Some (row_at rows q).code ≡ Some (row_at rows i).code = sym (parent_code k q kw e) ∙ own in
          let code : (row_at rows q).code ≡ (row_at rows i).code = cc in
          let one : q ≡ i = one_spans types rows q i j within (spans_trans types rows q k j within (spans_parent types rows q k kw e) lower) upper (ap (level_of types) code) in
          (ap (λ (x : ℕ). Some x) one, subst (λ x. x < k) one N.0))

  -- a type without a parent is the root
  pub root_code : (k : ℕ) → k < length rows → parent_row types rows k ≡ None → (row_at rows k).code ≡ 1
  root_code k within e =
      let none : parent_of types (row_at rows k).code ≡ None = sym ((sequence_is types rows over).parents k within) ∙ ap (option_map (λ j. (row_at rows j).code)) e in
      let T = typed types (row_at rows k) ((sequence_is types rows over).fit k within) in
      let own : T.0.parent ≡ None = ap (λ (o : Option SegmentType). option_and_then (λ (t : SegmentType). t.parent) o) (sym T.1) ∙ none in
      let fits : type_fits over.block_size types (row_at rows k).code T.0 ≡ true
      = type_of-fits over.block_size types (row_at rows k).code T.0 (types_fit over.block_size over.free_space types over.formed) T.1 in
      let rule : parent_fits (row_at rows k).code T.0 ≡ true = parent_rule (row_at rows k).code T.0 fits in
      elim (cases_eq (row_at rows k).code 1) [
        | inl same ↦ same
        | inr other ↦ absurd (false≢true (sym
            (ap (λ (b : Bool). cond b (is_none T.0.parent) (option_map_or (λ p. nat_lt 0 p && nat_lt p (row_at rows k).code) T.0.parent false)) (ne_eqb (row_at rows k).code 1 other)
            ∙ ap (λ (o : Option ℕ). option_map_or (λ p. nat_lt 0 p && nat_lt p (row_at rows k).code) o false) own) ∙ rule))
      ]
    where
      parent_rule : (c : ℕ) (t : SegmentType) → type_fits over.block_size types c t ≡ true → parent_fits c t ≡ true
      parent_rule c t fit =
          let to_sizes = and_parts _ _ (and_parts _ _ fit).0 in
          let to_names = and_parts _ _ to_sizes.0 in
          let to_root_key = and_parts _ _ to_names.0 in
          (and_parts (level_fits types c t) (parent_fits c t) (and_parts _ _ to_root_key.0).0).1

  -- each row is in the span of a root
  pub root_spans : (n i : ℕ) → i < n → i < length rows → (k : ℕ) × IsOnPath types rows 1 i k
  root_spans zero i few within = absurd (omega arith)
  root_spans (suc n) i few within = by_parent (parent_row types rows i) refl (λ q a b. root_spans n q a b)
    where
      by_parent : (o : Option ℕ) → parent_row types rows i ≡ o → ((q : ℕ) → q < n → q < length rows → (k : ℕ) × IsOnPath types rows 1 q k) → (k : ℕ) × IsOnPath types rows 1 i k
      by_parent None e more = (i, record { code = root_code i within e; spans = spans_self types rows i within })
      by_parent (Some q) e more =
          let N = nearest_is types rows (level_at types rows i) i q e in
          let w : q < i = N.0 in
          let I = more q (omega arith) (omega arith) in
          (I.0, record { code = I.1.code; spans = spans_trans types rows I.0 q i within I.1.spans (spans_parent types rows q i within e) })
