-- Rows that go in between the right neighbours leave all rows in hierarchic sequence.
use Rattle.std.proofs.Common.{◌≡◌, ℕ, zero, suc, ◌+◌, ◌-◌, ◌<◌, ◌≤◌, List, ◌++◌, length, take, drop, true, arith, ap, sym, ◌∙◌, subst, Option, Some, None, refl, inl, inr, ◌⊎◌}
use Rattle.std.specs.Prelude.{nat_lt, nat_le, option_map, slice_index_or, IfSome}
use Rattle.std.proofs.lemmas.Bool.{cases_lt, cond-true, cond-false, le-leb, lt-leb, lt-ltb}
use Rattle.std.proofs.lemmas.List.{length-append, length-take, get_or_append_left, get_or-append_right}
use Rattle.hd_dbd.specs.Types.{SegmentType}
use Rattle.hd_dbd.specs.Segment.{Segment}
use Rattle.hd_dbd.specs.Rows.{level, row_fits, siblings_in_order}
use Rattle.hd_dbd.specs.Hierarchy.{parent_of}
use Rattle.hd_dbd.specs.Paths.{no_row, row_at, level_at, nearest_above, parent_row, end_of, have_one_parent}
use Rattle.hd_dbd.specs.Laws.{IsInSequence}
use Rattle.hd_dbd.proofs.LevelLaw.{Leveled, depth_below}
use Rattle.hd_dbd.proofs.Names.{option_eq-Decides}
use Rattle.hd_calls.specs.Moves.{put_in, number_after_insert}
use Rattle.hd_calls.specs.Places.{end_below}
use Rattle.hd_calls.specs.Laws.{IsOf, begin_below}
use Rattle.hd_calls.proofs.Moving.{put_kept, length-put_in}
use Rattle.hd_calls.proofs.Spans.{IsEnd, end_is, nearest_past, some_level}
use Rattle.hd_calls.proofs.Splicing.{IsSpliced, up_front, up_back, row_up, up_less, up_one, parent_up, parent_code_up, nearest_low}

-- a list at a number inside what was put in
put_there : (p : ℕ) (new rows : List Segment) (i : ℕ) → p ≤ length rows → i < length new → row_at (put_in p new rows) (p + i) ≡ row_at new i
put_there p new rows i room inside =
    get_or_append_left (take p rows ++ new) (drop p rows) no_row (p + i) (omega (arith, length-append (take p rows) new, length-take p rows))
    ∙ get_or-append_right (take p rows) new p (p + i) no_row (omega (arith, length-take p rows)) (omega arith)
    ∙ ap (λ (n : ℕ). slice_index_or new n no_row) (omega arith)

-- Rows of a path go in at a number below a parent, or among the roots: each fits its type, each below the first is a child of the
-- one before it, and the first is a child of the parent's type and in order with the parent's rows on both sides.
pub record MayGoIn (types : List SegmentType) (rows : List Segment) (parent : Option ℕ) (p : ℕ) (new : List Segment) : Type 0 where
  pub some : 0 < length new
  pub fit : (i : ℕ) → i < length new → row_fits types (row_at new i) ≡ true
  pub chain : (i : ℕ) → i + 1 < length new → parent_of types (row_at new (i + 1)).code ≡ Some (row_at new i).code
  pub first : parent_of types (row_at new 0).code ≡ option_map (λ q. (row_at rows q).code) parent
  pub there : IfSome parent (λ q. q < length rows)
  pub from : begin_below parent ≤ p
  pub to : p ≤ end_below types rows parent
  pub low : p < length rows → level_at types rows p ≤ level types (row_at new 0)
  pub before : (j : ℕ) → j < p → IsOf types rows parent j → siblings_in_order types (row_at rows j) (row_at new 0) ≡ true
  pub behind : (j : ℕ) → p ≤ j → IsOf types rows parent j → siblings_in_order types (row_at new 0) (row_at rows j) ≡ true

module _ (types : List SegmentType) (leveled : Leveled types) (rows : List Segment) (ordered : IsInSequence types rows) (parent : Option ℕ) (p : ℕ) (new : List Segment) (may : MayGoIn types rows parent p new) where
  abbrev after : List Segment
  after = put_in p new rows

  inside : p ≤ length rows
  inside = by_parent parent may.there may.to
    where
      by_parent : (o : Option ℕ) → IfSome o (λ q. q < length rows) → p ≤ end_below types rows o → p ≤ length rows
      by_parent None there to = to
      by_parent (Some q) there to = (let span : IsEnd types rows q (end_of types rows q) = end_is types rows q there in omega (arith, to, span.within))

  -- the parent stands before the place
  parent_before : (q : ℕ) → parent ≡ Some q → q < p
  parent_before q is = (let low : begin_below (Some q) ≤ p = subst (λ (o : Option ℕ). begin_below o ≤ p) is may.from in omega (arith, low))

  there_new : (i : ℕ) → i < length new → row_at after (p + i) ≡ row_at new i
  there_new i within = put_there p new rows i inside within

  -- ---- levels

  level_next : (i : ℕ) → i + 1 < length new → level types (row_at new (i + 1)) ≡ level types (row_at new i) + 1
  level_next i within = leveled.law (row_at new (i + 1)) (may.fit (i + 1) within) ∙ ap (λ (o : Option ℕ). depth_below types o + 1) (may.chain i within)

  level_least : (i : ℕ) → i < length new → level types (row_at new 0) ≤ level types (row_at new i)
  level_least zero within = omega arith
  level_least (suc i) within =
      let more : suc i ≡ i + 1 = omega arith in
      omega (arith, level_least i (omega arith), level_next i (omega arith), ap (λ (n : ℕ). level types (row_at new n)) more)

  level_first : level types (row_at new 0) ≡ depth_below types (option_map (λ q. (row_at rows q).code) parent) + 1
  level_first = leveled.law (row_at new 0) (may.fit 0 may.some) ∙ ap (λ (o : Option ℕ). depth_below types o + 1) may.first

  -- ---- the rows that were there

  pub spliced : IsSpliced types rows after p (length new)
  spliced = record {
    whole = length-put_in p new rows;
    room = inside;
    front = λ k low. ap (λ (j : ℕ). row_at after j) (sym (cond-false (nat_le p k) (k + length new) k (lt-leb p k low))) ∙ put_kept p new rows k no_row (omega (arith, low, inside));
    back = λ k high within. ap (λ (j : ℕ). row_at after j) (sym (cond-true (nat_le p k) (k + length new) k (le-leb p k high))) ∙ put_kept p new rows k no_row within;
    deep = λ k from to there.
        let at : p + (k - p) ≡ k = omega arith in
        let here : level_at types after k ≡ level types (row_at new (k - p)) =
        ap (λ (n : ℕ). level_at types after n) (sym at) ∙ ap (λ (r : Segment). level types r) (there_new (k - p) (omega arith)) in
        omega (arith, here, may.low there, level_least (k - p) (omega arith));
  }

  abbrev up : ℕ → ℕ
  up k = number_after_insert p (length new) k

  -- each row was there or is new
  either : (k : ℕ) → k < length after → ((j : ℕ) × (j < length rows) × (k ≡ up j)) ⊎ ((i : ℕ) × (i < length new) × (k ≡ p + i))
  either k within = elim (cases_lt k p) [
    | inl low ↦ inl (k, omega (arith, low, inside), sym (up_front types rows after p (length new) spliced k low))
    | inr high ↦ elim (cases_lt k (p + length new)) [
      | inl less ↦ inr (k - p, omega arith, omega arith)
      | inr past ↦ inl (
        k - length new,
        omega (arith, within, past, length-put_in p new rows),
        omega (arith, past, up_back types rows after p (length new) spliced (k - length new) (omega arith)),
      )
    ]
  ]

  -- ---- parents

  abbrev pub parent_new : ℕ → Option ℕ
  parent_new zero = parent
  parent_new (suc i) = Some (p + i)

  nearest_parent : nearest_above types rows (level types (row_at new 0)) p ≡ parent
  nearest_parent = by_parent parent refl
    where
      by_parent : (o : Option ℕ) → parent ≡ o → nearest_above types rows (level types (row_at new 0)) p ≡ o
      by_parent None is =
          let flat : level types (row_at new 0) ≡ 1 = level_first ∙ ap (λ (o : Option ℕ). depth_below types (option_map (λ q. (row_at rows q).code) o) + 1) is in
          let whole : p ≡ 0 + p = omega arith in
          ap (λ (l : ℕ). nearest_above types rows l p) flat
          ∙ ap (λ (n : ℕ). nearest_above types rows 1 n) whole
          ∙ nearest_past types rows 1 0 p (λ k low high. (let some : 0 < level_at types rows k = some_level types leveled rows ordered k (omega (arith, high, inside)) in omega arith))
      by_parent (Some q) is =
          let up_one_ : level types (row_at new 0) ≡ level_at types rows q + 1 = level_first ∙ ap (λ (o : Option ℕ). depth_below types (option_map (λ q. (row_at rows q).code) o) + 1) is in
          let before : q < p = parent_before q is in
          let whole : p ≡ q + 1 + (p - (q + 1)) = omega arith in
          let next : q + 1 ≡ suc q = omega arith in
          let there : q < length rows = omega (arith, before, inside) in
          let span : IsEnd types rows q (end_of types rows q) = end_is types rows q there in
          let to : p ≤ end_of types rows q = subst (λ (o : Option ℕ). p ≤ end_below types rows o) is may.to in
          ap (λ (l : ℕ). nearest_above types rows l p) up_one_
          ∙ ap (λ (n : ℕ). nearest_above types rows (level_at types rows q + 1) n) whole
          ∙ nearest_past types rows (level_at types rows q + 1) (q + 1) (p - (q + 1))
          (λ k low high. (let deep : level_at types rows q < level_at types rows k = span.deeper k low (omega (arith, high, to, whole)) in omega arith))
          ∙ ap (λ (n : ℕ). nearest_above types rows (level_at types rows q + 1) n) next
          ∙ cond-true (nat_lt (level_at types rows q) (level_at types rows q + 1)) (Some q) (nearest_above types rows (level_at types rows q + 1) q) (lt-ltb (level_at types rows q) (level_at types rows q + 1) (omega arith))

  -- a parent before the place keeps its number
  parent_kept : option_map up parent ≡ parent
  parent_kept = by_parent parent refl
    where
      by_parent : (o : Option ℕ) → parent ≡ o → option_map up o ≡ o
      by_parent None is = refl
      by_parent (Some q) is = ap (λ (n : ℕ). Some n) (up_front types rows after p (length new) spliced q (parent_before q is))

  pub parent_in : (i : ℕ) → i < length new → parent_row types after (p + i) ≡ parent_new i
  parent_in zero within =
      let at : p + 0 ≡ p = omega arith in
      ap (λ (r : Segment). nearest_above types after (level types r) (p + 0)) (there_new 0 within)
      ∙ ap (λ (n : ℕ). nearest_above types after (level types (row_at new 0)) n) at
      ∙ nearest_low types rows after p (length new) spliced (level types (row_at new 0)) p (omega arith)
      ∙ ap (λ (o : Option ℕ). option_map up o) nearest_parent
      ∙ parent_kept
  parent_in (suc i) within =
      let at : p + suc i ≡ suc (p + i) = omega arith in
      let more : suc i ≡ i + 1 = omega arith in
      let own : level_at types after (p + i) ≡ level types (row_at new i) = ap (λ (r : Segment). level types r) (there_new i (omega arith)) in
      let up_ : level types (row_at new (suc i)) ≡ level types (row_at new i) + 1 = ap (λ (n : ℕ). level types (row_at new n)) more ∙ level_next i (omega arith) in
      ap (λ (r : Segment). nearest_above types after (level types r) (p + suc i)) (there_new (suc i) within)
      ∙ ap (λ (n : ℕ). nearest_above types after (level types (row_at new (suc i))) n) at
      ∙ cond-true (nat_lt (level_at types after (p + i)) (level types (row_at new (suc i)))) (Some (p + i)) (nearest_above types after (level types (row_at new (suc i))) (p + i))
      (lt-ltb (level_at types after (p + i)) (level types (row_at new (suc i))) (omega (arith, own, up_)))

  -- no old row has one of the new as its parent
  not_new : (o : Option ℕ) (i : ℕ) → i < length new → option_map up o ≡ Some (p + i) → ⊥
  not_new None i within is = cc
  not_new (Some m) i within is =
      let at : up m ≡ p + i = cc in
      elim (cases_lt m p) [
        | inl low ↦ absurd (omega (arith, at, up_front types rows after p (length new) spliced m low))
        | inr high ↦ absurd (omega (arith, at, up_back types rows after p (length new) spliced m high, within))
      ]

  same_parent : (o : Option ℕ) → option_map up o ≡ parent → o ≡ parent
  same_parent o is = by_both o parent refl is
    where
      by_both : (o q : Option ℕ) → parent ≡ q → option_map up o ≡ q → o ≡ q
      by_both None None q_is is = refl
      by_both None (Some q) q_is is = cc
      by_both (Some m) None q_is is = cc
      by_both (Some m) (Some q) q_is is =
          let at : up m ≡ q = cc in
          ap (λ (n : ℕ). Some n) (up_one types rows after p (length new) spliced m q (at ∙ sym (up_front types rows after p (length new) spliced q (parent_before q q_is))))

  -- ---- the whole

  fits : (k : ℕ) → k < length after → row_fits types (row_at after k) ≡ true
  fits k within = elim (either k within) [
    | inl old ↦ ap (λ (n : ℕ). row_fits types (row_at after n)) old.2 ∙ ap (λ (r : Segment). row_fits types r) (row_up types rows after p (length new) spliced old.0 old.1) ∙ ordered.fit old.0 old.1
    | inr here ↦ ap (λ (n : ℕ). row_fits types (row_at after n)) here.2 ∙ ap (λ (r : Segment). row_fits types r) (there_new here.0 here.1) ∙ may.fit here.0 here.1
  ]

  parents_new : (i : ℕ) → i < length new → option_map (λ j. (row_at after j).code) (parent_row types after (p + i)) ≡ parent_of types (row_at after (p + i)).code
  parents_new zero within =
      ap (λ (o : Option ℕ). option_map (λ j. (row_at after j).code) o) (parent_in zero within)
      ∙ by_parent parent refl
      ∙ sym may.first
      ∙ ap (λ (r : Segment). parent_of types r.code) (sym (there_new 0 within))
    where
      by_parent : (o : Option ℕ) → parent ≡ o → option_map (λ j. (row_at after j).code) o ≡ option_map (λ q. (row_at rows q).code) o
      by_parent None is = refl
      by_parent (Some q) is = ap (λ (r : Segment). Some r.code) (spliced.front q (parent_before q is))
  parents_new (suc i) within =
      let more : i + 1 ≡ suc i = omega arith in
      ap (λ (o : Option ℕ). option_map (λ j. (row_at after j).code) o) (parent_in (suc i) within)
      ∙ ap (λ (r : Segment). Some r.code) (there_new i (omega arith))
      ∙ sym (may.chain i (omega arith))
      ∙ ap (λ (n : ℕ). parent_of types (row_at new n).code) more
      ∙ ap (λ (r : Segment). parent_of types r.code) (sym (there_new (suc i) within))

  parents : (k : ℕ) → k < length after → option_map (λ j. (row_at after j).code) (parent_row types after k) ≡ parent_of types (row_at after k).code
  parents k within = elim (either k within) [
    | inl old ↦ ap (λ (n : ℕ). option_map (λ j. (row_at after j).code) (parent_row types after n)) old.2
        ∙ parent_code_up types rows after p (length new) spliced old.0 old.1
        ∙ ordered.parents old.0 old.1
        ∙ ap (λ (r : Segment). parent_of types r.code) (sym (row_up types rows after p (length new) spliced old.0 old.1))
        ∙ ap (λ (n : ℕ). parent_of types (row_at after n).code) (sym old.2)
    | inr here ↦ ap (λ (n : ℕ). option_map (λ j. (row_at after j).code) (parent_row types after n)) here.2
        ∙ parents_new here.0 here.1
        ∙ ap (λ (n : ℕ). parent_of types (row_at after n).code) (sym here.2)
  ]

  abbrev InOrder : ℕ → ℕ → Type 0
  InOrder i j = siblings_in_order types (row_at after i) (row_at after j) ≡ true

  old_old : (a b : ℕ) → a < length rows → b < length rows → up a < up b → parent_row types after (up a) ≡ parent_row types after (up b) → InOrder (up a) (up b)
  old_old a b wa wb less one =
      let before : a < b = elim (cases_lt a b) [
        | inl fine ↦ fine
        | inr none ↦ elim (cases_lt b a) [
          | inl more ↦ (let wrong : up b < up a = up_less types rows after p (length new) spliced b a more in absurd (omega (arith, wrong, less)))
          | inr even ↦ (let same : a ≡ b = omega arith in absurd (omega (arith, ap up same, less)))
        ]
      ] in
      ap (λ (r : Segment). siblings_in_order types r (row_at after (up b))) (row_up types rows after p (length new) spliced a wa)
      ∙ ap (λ (r : Segment). siblings_in_order types (row_at rows a) r) (row_up types rows after p (length new) spliced b wb)
      ∙ ordered.siblings a b before wb ((option_eq-Decides _ _).1
      (one_old (parent_row types rows a) (parent_row types rows b)
      (sym (parent_up types rows after p (length new) spliced a wa) ∙ one ∙ parent_up types rows after p (length new) spliced b wb)))
    where
      one_old : (x y : Option ℕ) → option_map up x ≡ option_map up y → x ≡ y
      one_old None None is = refl
      one_old None (Some y) is = cc
      one_old (Some x) None is = cc
      one_old (Some x) (Some y) is = (let at : up x ≡ up y = cc in ap (λ (n : ℕ). Some n) (up_one types rows after p (length new) spliced x y at))

  old_new : (a i : ℕ) → a < length rows → i < length new → up a < p + i → parent_row types after (up a) ≡ parent_new i → InOrder (up a) (p + i)
  old_new a zero wa wi less one =
      let low : a < p = elim (cases_lt a p) [ inl fine ↦ fine | inr none ↦ absurd (omega (arith, less, up_back types rows after p (length new) spliced a none)) ] in
      ap (λ (r : Segment). siblings_in_order types r (row_at after (p + 0))) (row_up types rows after p (length new) spliced a wa)
      ∙ ap (λ (r : Segment). siblings_in_order types (row_at rows a) r) (there_new 0 wi)
      ∙ may.before a low (wa, same_parent (parent_row types rows a) (sym (parent_up types rows after p (length new) spliced a wa) ∙ one))
  old_new a (suc i) wa wi less one =
      absurd (not_new (parent_row types rows a) i (omega arith) (sym (parent_up types rows after p (length new) spliced a wa) ∙ one))

  new_old : (i b : ℕ) → i < length new → b < length rows → p + i < up b → parent_new i ≡ parent_row types after (up b) → InOrder (p + i) (up b)
  new_old zero b wi wb less one =
      let high : p ≤ b = elim (cases_lt b p) [ inl none ↦ absurd (omega (arith, less, up_front types rows after p (length new) spliced b none)) | inr fine ↦ fine ] in
      ap (λ (r : Segment). siblings_in_order types r (row_at after (up b))) (there_new 0 wi)
      ∙ ap (λ (r : Segment). siblings_in_order types (row_at new 0) r) (row_up types rows after p (length new) spliced b wb)
      ∙ may.behind b high (wb, same_parent (parent_row types rows b) (sym (parent_up types rows after p (length new) spliced b wb) ∙ sym one))
  new_old (suc i) b wi wb less one =
      absurd (not_new (parent_row types rows b) i (omega arith) (sym (parent_up types rows after p (length new) spliced b wb) ∙ sym one))

  new_new : (i k : ℕ) → i < k → k < length new → parent_new i ≡ parent_new k → ⊥
  new_new i zero less within one = absurd (omega arith)
  new_new zero (suc k) less within one = (let before : p + k < p = parent_before (p + k) one in absurd (omega arith))
  new_new (suc i) (suc k) less within one = (let same : p + i ≡ p + k = cc in absurd (omega arith))

  siblings : (i j : ℕ) → i < j → j < length after → have_one_parent types after i j ≡ true → InOrder i j
  siblings i j less within one = by_kinds (either i (omega arith)) (either j within)
    where
      same : parent_row types after i ≡ parent_row types after j
      same = (option_eq-Decides _ _).0 one

      by_kinds : ((a : ℕ) × (a < length rows) × (i ≡ up a)) ⊎ ((a : ℕ) × (a < length new) × (i ≡ p + a))
          → ((b : ℕ) × (b < length rows) × (j ≡ up b)) ⊎ ((b : ℕ) × (b < length new) × (j ≡ p + b)) → InOrder i j
      by_kinds (inl a) (inl b) =
          ap (λ (n : ℕ). siblings_in_order types (row_at after n) (row_at after j)) a.2
          ∙ ap (λ (n : ℕ). siblings_in_order types (row_at after (up a.0)) (row_at after n)) b.2
          ∙ old_old a.0 b.0 a.1 b.1 (omega (arith, less, a.2, b.2))
          (ap (λ (n : ℕ). parent_row types after n) (sym a.2) ∙ same ∙ ap (λ (n : ℕ). parent_row types after n) b.2)
      by_kinds (inl a) (inr b) =
          ap (λ (n : ℕ). siblings_in_order types (row_at after n) (row_at after j)) a.2
          ∙ ap (λ (n : ℕ). siblings_in_order types (row_at after (up a.0)) (row_at after n)) b.2
          ∙ old_new a.0 b.0 a.1 b.1 (omega (arith, less, a.2, b.2))
          (ap (λ (n : ℕ). parent_row types after n) (sym a.2) ∙ same ∙ ap (λ (n : ℕ). parent_row types after n) b.2 ∙ parent_in b.0 b.1)
      by_kinds (inr a) (inl b) =
          ap (λ (n : ℕ). siblings_in_order types (row_at after n) (row_at after j)) a.2
          ∙ ap (λ (n : ℕ). siblings_in_order types (row_at after (p + a.0)) (row_at after n)) b.2
          ∙ new_old a.0 b.0 a.1 b.1 (omega (arith, less, a.2, b.2))
          (sym (parent_in a.0 a.1) ∙ ap (λ (n : ℕ). parent_row types after n) (sym a.2) ∙ same ∙ ap (λ (n : ℕ). parent_row types after n) b.2)
      by_kinds (inr a) (inr b) =
          absurd (new_new a.0 b.0 (omega (arith, less, a.2, b.2)) b.1
          (sym (parent_in a.0 a.1) ∙ ap (λ (n : ℕ). parent_row types after n) (sym a.2) ∙ same ∙ ap (λ (n : ℕ). parent_row types after n) b.2 ∙ parent_in b.0 b.1))

  pub inserted_in_sequence : IsInSequence types after
  inserted_in_sequence = record { fit = fits; parents = parents; siblings = siblings }
