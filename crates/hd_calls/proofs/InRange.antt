-- Each change of the rows leaves the positions in range.
use Rattle.std.proofs.Common.{◌≡◌, ℕ, zero, suc, ◌+◌, ◌-◌, ◌<◌, ◌≤◌, List, [], ◌∷◌, length, map, take, drop, true, false, Bool, cond, arith, ap, sym, ◌∙◌, subst, Option, Some, None, refl, inl, inr, ◌⊎◌}
use Rattle.std.specs.Prelude.{◌&&◌, nat_lt, nat_le, option_map, option_and_then, IfSome}
use Rattle.std.specs.List.{list_any, AllByRecursion}
use Rattle.std.proofs.lemmas.Bool.{cases_Bool, cases_lt, cond-true, cond-false, le-ltb, le-leb, lt-leb, lt-ltb, or_parts, and_from}
use Rattle.hd_dbd.specs.Types.{SegmentType}
use Rattle.hd_dbd.specs.Segment.{Segment}
use Rattle.hd_dbd.specs.Hierarchy.{level_of}
use Rattle.hd_dbd.specs.Rows.{level}
use Rattle.hd_dbd.specs.Paths.{no_row, row_at, level_at, parent_row, end_of, end_within}
use Rattle.hd_dbd.specs.Positions.{Position}
use Rattle.hd_calls.specs.Moves.{taken_out, is_inside, number_after_insert, number_after_delete, passed_after_insert, passed_after_delete, position_after_insert, position_after_delete}
use Rattle.hd_calls.specs.Laws.{LieOnOnePath, IsInRange}
use Rattle.hd_calls.proofs.Moving.{taken_kept}
use Rattle.hd_calls.proofs.Spans.{IsEnd, end_is, nearest_is}
use Rattle.hd_calls.proofs.Splicing.{IsSpliced, up_front, up_back, up_less, up_within, below_up, below_down}
use Rattle.hd_calls.proofs.Replacing.{AreAlike}
use Rattle.std.proofs.lemmas.List.{length-append, length-take, length-drop}

if_map : (f : ℕ → ℕ) (P Q : ℕ → Type 0) → ((i : ℕ) → P i → Q (f i)) → (o : Option ℕ) → IfSome o P → IfSome (option_map f o) Q
if_map f P Q g None h = tt
if_map f P Q g (Some i) h = g i h

all_up : (f : ℕ → ℕ) (P Q : ℕ → Type 0) → ((i : ℕ) → P i → Q (f i)) → (xs : List ℕ) → AllByRecursion P xs → AllByRecursion Q (map f xs)
all_up f P Q g [] all = tt
all_up f P Q g (x ∷ xs) all = (g x all.0, all_up f P Q g xs all.1)

-- ---- rows put in

module _ (types : List SegmentType) (old new : List Segment) (p count : ℕ) (spliced : IsSpliced types old new p count) where
  path_up : (xs : List ℕ) → LieOnOnePath types old xs → LieOnOnePath types new (map (λ n. number_after_insert p count n) xs)
  path_up [] lie = tt
  path_up (i ∷ is) lie = (
    up_within types old new p count spliced i lie.0,
    all_up (λ n. number_after_insert p count n) (λ j. (i < j) × (j < end_of types old i))
        (λ j. (number_after_insert p count i < j) × (j < end_of types new (number_after_insert p count i)))
        (λ j below. (up_less types old new p count spliced i j below.0, below_up types old new p count spliced i j lie.0 below.0 below.1)) is lie.1,
    path_up is lie.2,
  )

  passed_up : (n : ℕ) → n ≤ length old → passed_after_insert p count n ≤ length new
  passed_up n within = elim (cases_Bool (nat_lt p n)) [
    | inl more ↦ (let is : passed_after_insert p count n ≡ n + count = cond-true (nat_lt p n) (n + count) n more in omega (arith, is, spliced.whole))
    | inr less ↦ (let is : passed_after_insert p count n ≡ n = cond-false (nat_lt p n) (n + count) n less in omega (arith, is, spliced.whole))
  ]

  pub inserted_in_range : (q : Position) → IsInRange types old q → IsInRange types new (position_after_insert p count q)
  inserted_in_range q within = record {
    passed = passed_up q.passed within.passed;
    standing = if_map (λ n. number_after_insert p count n) (λ i. i < length old) (λ i. i < length new) (λ i less. up_within types old new p count spliced i less) q.standing within.standing;
    parent = if_map (λ n. number_after_insert p count n) (λ i. i < length old) (λ i. i < length new) (λ i less. up_within types old new p count spliced i less) q.parent within.parent;
    held = path_up q.held within.held;
  }

-- ---- rows taken out

module _ (types : List SegmentType) (rows : List Segment) (from : ℕ) (within : from < length rows) where
  abbrev to : ℕ
  to = end_of types rows from

  abbrev rest : List Segment
  rest = taken_out from to rows

  span : IsEnd types rows from to
  span = end_is types rows from within

  forward : from < to
  forward = span.behind

  length_rest : length rest + (to - from) ≡ length rows
  length_rest = omega (arith, span.behind, span.within, length-append (take from rows) (drop to rows), length-take from rows, length-drop to rows)

  outside : (k : ℕ) → (k < from) ⊎ (to ≤ k) → is_inside from to k ≡ false
  outside k (inl low) = ap (λ (b : Bool). b && nat_lt k to) (lt-leb from k low)
  outside k (inr high) = elim (cases_Bool (nat_le from k)) [
    | inl more ↦ ap (λ (b : Bool). b && nat_lt k to) more ∙ le-ltb k to high
    | inr less ↦ ap (λ (b : Bool). b && nat_lt k to) less
  ]

  -- seen from behind, the span was put in
  pub gone_spliced : IsSpliced types rest rows from (to - from)
  gone_spliced = record {
    whole = sym length_rest;
    room = omega (arith, length_rest, span.within, forward);
    front = λ k low.
        let at : number_after_delete from to k ≡ k = cond-false (nat_le to k) (k - (to - from)) k (lt-leb to k (omega (arith, low, forward))) in
        sym (ap (λ (n : ℕ). row_at rest n) (sym at) ∙ taken_kept from to rows k no_row (omega (arith, forward)) (outside k (inl low)) (omega (arith, low, within)));
    back = λ k high inside.
        let at : number_after_delete from to (k + (to - from)) ≡ k + (to - from) - (to - from) =
        cond-true (nat_le to (k + (to - from))) (k + (to - from) - (to - from)) (k + (to - from)) (le-leb to (k + (to - from)) (omega (arith, high, forward))) in
        let same : number_after_delete from to (k + (to - from)) ≡ k = omega (arith, at) in
        sym (ap (λ (n : ℕ). row_at rest n) (sym same)
        ∙ taken_kept from to rows (k + (to - from)) no_row (omega (arith, forward)) (outside (k + (to - from)) (inr (omega (arith, high, forward)))) (omega (arith, inside, length_rest)));
    deep = λ k low high there.
        let at : number_after_delete from to to ≡ to - (to - from) = cond-true (nat_le to to) (to - (to - from)) to (le-leb to to (omega arith)) in
        let same : number_after_delete from to to ≡ from = omega (arith, at, forward) in
        let inside : to < length rows = omega (arith, there, length_rest, forward) in
        let next : level_at types rest from ≡ level_at types rows to =
        ap (λ (n : ℕ). level_at types rest n) (sym same) ∙ ap (λ (r : Segment). level types r) (taken_kept from to rows to no_row (omega (arith, forward)) (outside to (inr (omega arith))) inside) in
        omega (arith, next, flat inside, deeper k low (omega (arith, high, forward)));
  }
    where
      flat : to < length rows → level_at types rows to ≤ level_at types rows from
      flat inside = by_next span.next
        where
          by_next : (to ≡ length rows) ⊎ (level_at types rows to ≤ level_at types rows from) → level_at types rows to ≤ level_at types rows from
          by_next (inl all) = absurd (omega (arith, all, inside))
          by_next (inr low) = low

      deeper : (k : ℕ) → from ≤ k → k < to → level_at types rows from ≤ level_at types rows k
      deeper k low high = elim (cases_lt from k) [
        | inl less ↦ (let deep : level_at types rows from < level_at types rows k = span.deeper k (omega arith) high in omega (arith, deep))
        | inr here ↦ (let same : from ≡ k = omega (arith, low, here) in omega (arith, ap (λ (n : ℕ). level_at types rows n) same))
      ]

  abbrev down : ℕ → ℕ
  down n = number_after_delete from to n

  -- an outer row's number, and back
  up_down : (n : ℕ) → is_inside from to n ≡ false → number_after_insert from (to - from) (down n) ≡ n
  up_down n out = elim (cases_lt n from) [
    | inl low ↦ (let at : down n ≡ n = cond-false (nat_le to n) (n - (to - from)) n (lt-leb to n (omega (arith, low, forward))) in
        ap (λ (m : ℕ). number_after_insert from (to - from) m) at ∙ up_front types rest rows from (to - from) gone_spliced n low)
    | inr high ↦ (let past : to ≤ n = behind high in
        let at : down n ≡ n - (to - from) = cond-true (nat_le to n) (n - (to - from)) n (le-leb to n past) in
        let up_ : number_after_insert from (to - from) (n - (to - from)) ≡ n - (to - from) + (to - from) = up_back types rest rows from (to - from) gone_spliced (n - (to - from)) (omega (arith, past, forward)) in
        ap (λ (m : ℕ). number_after_insert from (to - from) m) at ∙ up_ ∙ omega (arith, past, forward))
  ]
    where
      behind : from ≤ n → to ≤ n
      behind high = elim (cases_lt n to) [
        | inr fine ↦ fine
        | inl less ↦ (let wrong : is_inside from to n ≡ true = and_from (nat_le from n) (nat_lt n to) (le-leb from n high) (lt-ltb n to less) in cc)
      ]

  down_within : (n : ℕ) → is_inside from to n ≡ false → n < length rows → down n < length rest
  down_within n out less = elim (cases_lt (down n) (length rest)) [
    | inl fine ↦ fine
    | inr past ↦ (let at : number_after_insert from (to - from) (down n) ≡ down n + (to - from) = up_back types rest rows from (to - from) gone_spliced (down n) (omega (arith, past, length_rest, span.within, forward)) in
        absurd (omega (arith, at, up_down n out, past, less, length_rest)))
  ]

  down_less : (i j : ℕ) → is_inside from to i ≡ false → is_inside from to j ≡ false → i < j → down i < down j
  down_less i j out_i out_j less = elim (cases_lt (down i) (down j)) [
    | inl fine ↦ fine
    | inr none ↦ elim (cases_lt (down j) (down i)) [
      | inl more ↦ (let wrong : number_after_insert from (to - from) (down j) < number_after_insert from (to - from) (down i) = up_less types rest rows from (to - from) gone_spliced (down j) (down i) more in
          absurd (omega (arith, wrong, up_down i out_i, up_down j out_j, less)))
      | inr even ↦ (let same : down i ≡ down j = omega (arith, none, even) in
          absurd (omega (arith, ap (λ (n : ℕ). number_after_insert from (to - from) n) same, up_down i out_i, up_down j out_j, less)))
    ]
  ]

  path_down : (xs : List ℕ) → list_any (λ n. is_inside from to n) xs ≡ false → LieOnOnePath types rows xs → LieOnOnePath types rest (map (λ n. number_after_delete from to n) xs)
  path_down [] none lie = tt
  path_down (i ∷ is) none lie =
      let both = or_parts (is_inside from to i) (list_any (λ n. is_inside from to n) is) none in
      (down_within i both.0 lie.0, below is both.0 both.1 lie.2 lie.1, path_down is both.1 lie.2)
    where
      below : (xs : List ℕ) → is_inside from to i ≡ false → list_any (λ n. is_inside from to n) xs ≡ false → LieOnOnePath types rows xs → AllByRecursion (λ j. (i < j) × (j < end_of types rows i)) xs
          → AllByRecursion (λ j. (down i < j) × (j < end_of types rest (down i))) (map (λ n. number_after_delete from to n) xs)
      below [] out none lie all = tt
      below (j ∷ js) out none lie all =
          let both = or_parts (is_inside from to j) (list_any (λ n. is_inside from to n) js) none in
          let less : down i < down j = down_less i j out both.0 all.0.0 in
          let there : number_after_insert from (to - from) (down j) < end_of types rows (number_after_insert from (to - from) (down i)) =
          subst (λ (n : ℕ). number_after_insert from (to - from) (down j) < end_of types rows n) (sym (up_down i out)) (omega (arith, up_down j both.0, all.0.1)) in
          ((less, below_down types rest rows from (to - from) gone_spliced (down i) (down j) less (down_within j both.0 lie.0) there), below js out both.1 lie.2 all.1)

  if_down : (above : Option ℕ) → IfSome above (λ i. i < length rest) → (o : Option ℕ) → IfSome o (λ i. i < length rows)
      → IfSome (option_and_then (λ n. cond (is_inside from to n) above (Some (number_after_delete from to n))) o) (λ i. i < length rest)
  if_down above fine None h = tt
  if_down above fine (Some n) h = by_inside (is_inside from to n) refl
    where
      by_inside : (b : Bool) → is_inside from to n ≡ b → IfSome (cond b above (Some (number_after_delete from to n))) (λ i. i < length rest)
      by_inside true is = fine
      by_inside false is = down_within n is h

  parent_stays : IfSome (parent_row types rows from) (λ i. i < length rest)
  parent_stays = by_parent (parent_row types rows from) refl
    where
      by_parent : (o : Option ℕ) → parent_row types rows from ≡ o → IfSome o (λ i. i < length rest)
      by_parent None is = tt
      by_parent (Some q) is = omega (arith, (nearest_is types rows (level_at types rows from) from q is).0, length_rest, span.within, forward)

  passed_down : (n : ℕ) → n ≤ length rows → passed_after_delete from to n ≤ length rest
  passed_down n fits = elim (cases_Bool (nat_lt from n && nat_le n to)) [
    | inl inside ↦ (let is : passed_after_delete from to n ≡ from = cond-true (nat_lt from n && nat_le n to) from (down n) inside in omega (arith, is, length_rest, span.within, forward))
    | inr out ↦ (let is : passed_after_delete from to n ≡ down n = cond-false (nat_lt from n && nat_le n to) from (down n) out in
        elim (cases_lt n to) [
          | inr high ↦ (let at : down n ≡ n - (to - from) = cond-true (nat_le to n) (n - (to - from)) n (le-leb to n high) in omega (arith, is, at, fits, length_rest, high, forward))
          | inl less ↦ (let at : down n ≡ n = cond-false (nat_le to n) (n - (to - from)) n (lt-leb to n less) in
              elim (cases_lt from n) [
                | inl more ↦ (let wrong : (nat_lt from n && nat_le n to) ≡ true = and_from (nat_lt from n) (nat_le n to) (lt-ltb from n more) (le-leb n to (omega (arith, less))) in cc)
                | inr low ↦ omega (arith, is, at, low, length_rest, span.within, forward)
              ])
        ])
  ]

  pub deleted_in_range : (q : Position) → IsInRange types rows q → IsInRange types rest (position_after_delete from to (parent_row types rows from) q)
  deleted_in_range q fits = record {
    passed = passed_down q.passed fits.passed;
    standing = if_down (parent_row types rows from) parent_stays q.standing fits.standing;
    parent = if_down None tt q.parent fits.parent;
    held = by_held (list_any (λ n. is_inside from to n) q.held) refl;
  }
    where
      by_held : (b : Bool) → list_any (λ n. is_inside from to n) q.held ≡ b → LieOnOnePath types rest (cond b [] (map (λ n. number_after_delete from to n) q.held))
      by_held true is = tt
      by_held false is = path_down q.held is fits.held

-- ---- rows with other bytes

module _ (types : List SegmentType) (old new : List Segment) (alike : AreAlike types old new) where
  end_same : (l n i : ℕ) → end_within types new l n i ≡ end_within types old l n i
  end_same l zero i = refl
  end_same l (suc n) i =
      ap (λ (c : ℕ). cond (nat_le (level_of types c) l) i (end_within types new l n (i + 1))) (alike.codes i)
      ∙ ap (λ (e : ℕ). cond (nat_le (level_at types old i) l) i e) (end_same l n (i + 1))

  span_same : (i : ℕ) → end_of types new i ≡ end_of types old i
  span_same i =
      ap (λ (c : ℕ). end_within types new (level_of types c) (length new - (i + 1)) (i + 1)) (alike.codes i)
      ∙ ap (λ (n : ℕ). end_within types new (level_at types old i) (n - (i + 1)) (i + 1)) alike.same
      ∙ end_same (level_at types old i) (length old - (i + 1)) (i + 1)

  path_same : (xs : List ℕ) → LieOnOnePath types old xs → LieOnOnePath types new xs
  path_same [] lie = tt
  path_same (i ∷ is) lie = (
    omega (arith, lie.0, alike.same),
    subst (λ (e : ℕ). AllByRecursion (λ j. (i < j) × (j < e)) is) (sym (span_same i)) lie.1,
    path_same is lie.2,
  )

  if_same : (o : Option ℕ) → IfSome o (λ i. i < length old) → IfSome o (λ i. i < length new)
  if_same None h = tt
  if_same (Some i) h = omega (arith, h, alike.same)

  pub alike_in_range : (q : Position) → IsInRange types old q → IsInRange types new q
  alike_in_range q fits = record {
    passed = omega (arith, fits.passed, alike.same);
    standing = if_same q.standing fits.standing;
    parent = if_same q.parent fits.parent;
    held = path_same q.held fits.held;
  }
