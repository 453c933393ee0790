-- The valid rows are those in hierarchic sequence, told without a walk.
use Rattle.std.proofs.Common.{◌≡◌, ℕ, zero, suc, ◌+◌, ◌-◌, ◌<◌, ◌≤◌, List, [], length, true, false, arith, ap, sym, ◌∙◌, Option, Some, None, refl, inl, inr}
use Rattle.std.specs.Prelude.{slice_get, ◌==◌, nat_lt, option_map}
use Rattle.std.specs.Option.{option_map_or}
use Rattle.std.proofs.lemmas.Bool.{and_parts, and_from, eq-eqb, eqb-true, le-ltb, ltb-false, cases_Bool, cond-true, cond-false}
use Rattle.hd_dbd.specs.Types.{SegmentType}
use Rattle.hd_dbd.specs.Segment.{Segment}
use Rattle.hd_dbd.specs.Hierarchy.{parent_of, level_of}
use Rattle.hd_dbd.specs.Rows.{valid_from, may_follow, is_below, is_in_order, row_fits, siblings_in_order}
use Rattle.hd_dbd.specs.Paths.{row_at, level_at, nearest_above, parent_row}
use Rattle.hd_dbd.specs.Laws.{IsInSequence}
use Rattle.hd_dbd.proofs.LevelLaw.{Leveled, depth_below}
use Rattle.hd_dbd.proofs.Names.{option_eq-Decides}
use Rattle.hd_dbd.proofs.Forests.{low_after}
use Rattle.hd_dbd.proofs.Twins.{rows_ascend, nearest_before}
use Rattle.hd_dbd.proofs.Walks.{walked, valid_each, each_valid, IsStepwise, more, nearest_on, on_nearest}

-- the code of a row's parent
abbrev parent_code : List SegmentType → List Segment → ℕ → Option ℕ
parent_code types rows i = option_map (λ j. (row_at rows j).code) (parent_row types rows i)

-- where no row before is above the level, none is the nearest
none_above : (types : List SegmentType) (rows : List Segment) (l n : ℕ) → ((k : ℕ) → k < n → l ≤ level_at types rows k) → nearest_above types rows l n ≡ None
none_above types rows l zero deep = refl
none_above types rows l (suc n) deep =
    cond-false (nat_lt (level_at types rows n) l) (Some n) (nearest_above types rows l n) (le-ltb (level_at types rows n) l (deep n (omega arith)))
    ∙ none_above types rows l n (λ k below. deep k (omega arith))

-- ---- valid rows are in sequence

-- valid rows have a level each, at most one below the end of the path
valid_stepwise : (types : List SegmentType) (leveled : Leveled types) (rows : List Segment) (n : ℕ) → valid_from types [] rows ≡ true → n ≤ length rows → IsStepwise types rows n
valid_stepwise types leveled rows n valid within = record {
  some = λ k below. (let follows : may_follow types (walked types [] rows k) (row_at rows k) ≡ true = valid_each types [] rows valid k (omega arith) in
      let fits : row_fits types (row_at rows k) ≡ true = (and_parts _ _ (and_parts _ _ follows).0).0 in
      let law : level_at types rows k ≡ depth_below types (parent_of types (row_at rows k).code) + 1 = leveled.law (row_at rows k) fits in
      omega arith);
  reach = λ k below. low_after types leveled (walked types [] rows k) (row_at rows k) (valid_each types [] rows valid k (omega arith));
}

-- the nearest row above one that may follow the walk's path is of its parent type
parent_found : (types : List SegmentType) (leveled : Leveled types) (rows : List Segment) (i : ℕ) → IsStepwise types rows i
    → may_follow types (walked types [] rows i) (row_at rows i) ≡ true → parent_code types rows i ≡ parent_of types (row_at rows i).code
parent_found types leveled rows i steps follows =
    let two = and_parts _ _ follows in
    let one = and_parts _ _ two.0 in
    by_parent (parent_of types (row_at rows i).code) refl one.1 (leveled.law (row_at rows i) one.0) one.0
  where
    by_parent : (parent : Option ℕ) → parent_of types (row_at rows i).code ≡ parent
        → option_map_or (λ p. option_map_or (λ q. q.code == p) (slice_get (walked types [] rows i) (level_at types rows i - 2)) false) parent true ≡ true
        → level_at types rows i ≡ depth_below types (parent_of types (row_at rows i).code) + 1 → row_fits types (row_at rows i) ≡ true
        → parent_code types rows i ≡ parent_of types (row_at rows i).code
    by_parent None is below law fits =
        let depth : depth_below types (parent_of types (row_at rows i).code) ≡ 0 = ap (λ (o : Option ℕ). depth_below types o) is in
        let none : parent_row types rows i ≡ None =
        none_above types rows (level_at types rows i) i (λ k before. (let some : 0 < level_at types rows k = steps.some k before in omega arith)) in
        ap (λ (o : Option ℕ). option_map (λ j. (row_at rows j).code) o) none ∙ sym is
    by_parent (Some p) is below law fits =
        let depth : depth_below types (parent_of types (row_at rows i).code) ≡ level_of types p = ap (λ (o : Option ℕ). depth_below types o) is in
        let some : 0 < level_of types p = leveled.parents (row_at rows i) p fits is in
        by_place (omega arith) (slice_get (walked types [] rows i) (level_at types rows i - 2)) refl below
      where
        by_place : level_at types rows i - 2 + 2 ≡ level_at types rows i → (o : Option Segment)
            → slice_get (walked types [] rows i) (level_at types rows i - 2) ≡ o → option_map_or (λ q. q.code == p) o false ≡ true
            → parent_code types rows i ≡ parent_of types (row_at rows i).code
        by_place two_up None on found = cc
        by_place two_up (Some q) on found =
            let place = on_nearest types rows i (level_at types rows i - 2) q steps on in
            let nearest : parent_row types rows i ≡ Some place.0 = ap (λ (l : ℕ). nearest_above types rows l i) (sym two_up) ∙ place.1 in
            ap (λ (o : Option ℕ). option_map (λ j. (row_at rows j).code) o) nearest
            ∙ ap (λ (s : Segment). Some s.code) place.3
            ∙ ap (λ (c : ℕ). Some c) (eqb-true q.code p found)
            ∙ sym is

-- valid rows are in hierarchic sequence
pub in_sequence : (types : List SegmentType) (leveled : Leveled types) (rows : List Segment) → valid_from types [] rows ≡ true → IsInSequence types rows
in_sequence types leveled rows valid = record {
  fit = λ i within. fit i within;
  parents = λ i within. parents i within;
  siblings = λ i j before within one.
      (let parent : parent_row types rows i ≡ parent_row types rows j = (option_eq-Decides _ _).0 one in
      let own : depth_below types (parent_of types (row_at rows i).code) ≡ depth_below types (parent_of types (row_at rows j).code) =
      ap (λ (o : Option ℕ). depth_below types o) (sym (parents i (omega arith)) ∙ ap (λ (o : Option ℕ). option_map (λ k. (row_at rows k).code) o) parent ∙ parents j within) in
      let first : level_at types rows i ≡ depth_below types (parent_of types (row_at rows i).code) + 1 = leveled.law (row_at rows i) (fit i (omega arith)) in
      let second : level_at types rows j ≡ depth_below types (parent_of types (row_at rows j).code) + 1 = leveled.law (row_at rows j) (fit j within) in
      rows_ascend types leveled rows i j valid before within (omega arith) parent);
}
  where
    fit : (i : ℕ) → i < length rows → row_fits types (row_at rows i) ≡ true
    fit i within = (and_parts _ _ (and_parts _ _ (valid_each types [] rows valid i within)).0).0

    parents : (i : ℕ) → i < length rows → parent_code types rows i ≡ parent_of types (row_at rows i).code
    parents i within = parent_found types leveled rows i (valid_stepwise types leveled rows i valid (omega arith)) (valid_each types [] rows valid i within)

-- ---- rows in sequence are valid

-- the last row before another on its level or above it, if on its level, has the same nearest row above as the other
same_above : (types : List SegmentType) (rows : List Segment) (l n k : ℕ) → nearest_above types rows (l + 1) n ≡ Some k → level_at types rows k ≡ l
    → nearest_above types rows l k ≡ nearest_above types rows l n
same_above types rows l zero k is at = cc
same_above types rows l (suc n) k is at = elim (cases_Bool (nat_lt (level_at types rows n) (l + 1))) [
  | inl above ↦ (let found : Some n ≡ Some k = sym (cond-true (nat_lt (level_at types rows n) (l + 1)) (Some n) (nearest_above types rows (l + 1) n) above) ∙ is in
      let same : n ≡ k = cc in
      let here : level_at types rows n ≡ l = ap (λ (m : ℕ). level_at types rows m) same ∙ at in
      ap (λ (m : ℕ). nearest_above types rows l m) (sym same)
      ∙ sym (cond-false (nat_lt (level_at types rows n) l) (Some n) (nearest_above types rows l n) (le-ltb (level_at types rows n) l (omega arith))))
  | inr under ↦ (let deep : l + 1 ≤ level_at types rows n = ltb-false (level_at types rows n) (l + 1) under in
      same_above types rows l n k (sym (cond-false (nat_lt (level_at types rows n) (l + 1)) (Some n) (nearest_above types rows (l + 1) n) under) ∙ is) at
      ∙ sym (cond-false (nat_lt (level_at types rows n) l) (Some n) (nearest_above types rows l n) (le-ltb (level_at types rows n) l (omega arith))))
]

-- the row may stand below what the walk's path ends with, where the nearest row above is of its parent type
below_nearest : (types : List SegmentType) (leveled : Leveled types) (rows : List Segment) (i : ℕ) → IsInSequence types rows → i < length rows → IsStepwise types rows i
    → is_below types (walked types [] rows i) (row_at rows i) ≡ true
below_nearest types leveled rows i ordered within steps =
    by_parent (parent_of types (row_at rows i).code) refl (leveled.law (row_at rows i) (ordered.fit i within))
  where
    by_parent : (parent : Option ℕ) → parent_of types (row_at rows i).code ≡ parent
        → level_at types rows i ≡ depth_below types (parent_of types (row_at rows i).code) + 1
        → is_below types (walked types [] rows i) (row_at rows i) ≡ true
    by_parent None is law =
        ap (λ (o : Option ℕ). option_map_or (λ p. option_map_or (λ q. q.code == p) (slice_get (walked types [] rows i) (level_at types rows i - 2)) false) o true) is
    by_parent (Some p) is law =
        let depth : depth_below types (parent_of types (row_at rows i).code) ≡ level_of types p = ap (λ (o : Option ℕ). depth_below types o) is in
        let some : 0 < level_of types p = leveled.parents (row_at rows i) p (ordered.fit i within) is in
        by_place (omega arith) (omega arith) (parent_row types rows i) refl (ordered.parents i within ∙ is)
      where
        by_place : level_at types rows i ≡ level_at types rows i - 2 + 2 → level_at types rows i ≡ level_of types p + 1 → (o : Option ℕ) → parent_row types rows i ≡ o
            → option_map (λ j. (row_at rows j).code) o ≡ Some p → is_below types (walked types [] rows i) (row_at rows i) ≡ true
        by_place two_up law None found code = cc
        by_place two_up law (Some k) found code =
            let code_is : (row_at rows k).code ≡ p = cc in
            let at : level_at types rows k ≡ level_of types p = ap (λ (c : ℕ). level_of types c) code_is in
            let on : slice_get (walked types [] rows i) (level_at types rows i - 2) ≡ Some (row_at rows k) =
            nearest_on types rows i (level_at types rows i - 2) k steps (ap (λ (l : ℕ). nearest_above types rows l i) (sym two_up) ∙ found) (omega arith) in
            ap (λ (o : Option ℕ). option_map_or (λ p. option_map_or (λ q. q.code == p) (slice_get (walked types [] rows i) (level_at types rows i - 2)) false) o true) is
            ∙ ap (λ (o : Option Segment). option_map_or (λ q. q.code == p) o false) on
            ∙ eq-eqb (row_at rows k).code p code_is

-- the row is in order behind what stands on the path at its level, where rows of one parent are in order
behind_nearest : (types : List SegmentType) (rows : List Segment) (i : ℕ) → IsInSequence types rows → i < length rows → 0 < level_at types rows i → IsStepwise types rows i
    → is_in_order types (walked types [] rows i) (row_at rows i) ≡ true
behind_nearest types rows i ordered within some steps =
    by_place (omega arith) (slice_get (walked types [] rows i) (level_at types rows i - 1)) refl
  where
    by_place : level_at types rows i ≡ level_at types rows i - 1 + 1 → (o : Option Segment) → slice_get (walked types [] rows i) (level_at types rows i - 1) ≡ o
        → is_in_order types (walked types [] rows i) (row_at rows i) ≡ true
    by_place one_up None on = ap (λ (o : Option Segment). option_map_or (λ p. siblings_in_order types p (row_at rows i)) o true) on
    by_place one_up (Some q) on =
        let place = on_nearest types rows i (level_at types rows i - 1) q steps on in
        let at : level_at types rows place.0 ≡ level_at types rows i = place.2 ∙ sym one_up in
        let nearest : nearest_above types rows (level_at types rows i + 1) i ≡ Some place.0 =
        ap (λ (l : ℕ). nearest_above types rows l i) (omega arith) ∙ place.1 in
        let before : place.0 < i = nearest_before types rows (level_at types rows i + 1) i place.0 nearest in
        let parent : parent_row types rows place.0 ≡ parent_row types rows i =
        ap (λ (l : ℕ). nearest_above types rows l place.0) at ∙ same_above types rows (level_at types rows i) i place.0 nearest at in
        ap (λ (o : Option Segment). option_map_or (λ p. siblings_in_order types p (row_at rows i)) o true) on
        ∙ ap (λ (s : Segment). siblings_in_order types s (row_at rows i)) (sym place.3)
        ∙ ordered.siblings place.0 i before within ((option_eq-Decides _ _).1 parent)

-- each row of a hierarchic sequence may follow the path of those before it
each_follows : (types : List SegmentType) (leveled : Leveled types) (rows : List Segment) → IsInSequence types rows → (n : ℕ) → n < length rows → IsStepwise types rows n
    → may_follow types (walked types [] rows n) (row_at rows n) ≡ true
each_follows types leveled rows ordered n within steps =
    let fits : row_fits types (row_at rows n) ≡ true = ordered.fit n within in
    let law : level_at types rows n ≡ depth_below types (parent_of types (row_at rows n).code) + 1 = leveled.law (row_at rows n) fits in
    and_from _ _ (and_from _ _ fits (below_nearest types leveled rows n ordered within steps)) (behind_nearest types rows n ordered within (omega arith) steps)

-- the rows of a hierarchic sequence have a level each, at most one below the end of the path
sequence_stepwise : (types : List SegmentType) (leveled : Leveled types) (rows : List Segment) → IsInSequence types rows → (n : ℕ) → n ≤ length rows → IsStepwise types rows n
sequence_stepwise types leveled rows ordered zero within = record {
  some = λ k below. absurd (omega arith);
  reach = λ k below. absurd (omega arith);
}
sequence_stepwise types leveled rows ordered (suc n) within =
    let steps : IsStepwise types rows n = sequence_stepwise types leveled rows ordered n (omega arith) in
    let law : level_at types rows n ≡ depth_below types (parent_of types (row_at rows n).code) + 1 = leveled.law (row_at rows n) (ordered.fit n (omega arith)) in
    let reach : level_at types rows n ≤ length (walked types [] rows n) + 1 =
    low_after types leveled (walked types [] rows n) (row_at rows n) (each_follows types leveled rows ordered n (omega arith) steps) in
    more types rows n steps (omega arith) reach

-- rows in hierarchic sequence are valid
pub sequence_valid : (types : List SegmentType) (leveled : Leveled types) (rows : List Segment) → IsInSequence types rows → valid_from types [] rows ≡ true
sequence_valid types leveled rows ordered =
    each_valid types [] rows
    (λ n within. each_follows types leveled rows ordered n within (sequence_stepwise types leveled rows ordered n (omega arith)))
