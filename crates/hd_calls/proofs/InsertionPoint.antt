-- The insertion point among the rows of a parent.
use Rattle.std.proofs.Common.{◌≡◌, ℕ, ◌+◌, ◌<◌, ◌≤◌, List, length, true, false, Bool, arith, ap, ◌∙◌, subst, ◌-◌, ◌⊎◌, Option, Some, None, refl, inl, inr}
use Rattle.std.specs.Prelude.{◌&&◌, nat_le, unwrap_or, is_some, IfSome}
use Rattle.std.proofs.lemmas.Bool.{and_from, cases_Bool, cases_lt}
use Rattle.hd_dbd.specs.Types.{SegmentType}
use Rattle.hd_dbd.specs.Segment.{Segment}
use Rattle.hd_dbd.specs.Paths.{row_at, level_at, parent_row, end_of}
use Rattle.hd_dbd.specs.Searches.{first_from}
use Rattle.hd_dbd.specs.Loads.{has_unique_key}
use Rattle.hd_dbd.specs.Laws.{IsInSequence}
use Rattle.hd_dbd.proofs.LevelLaw.{Leveled, leveled, typed}
use Rattle.hd_dbd.proofs.InSequence.{in_sequence}
use Rattle.hd_dbd.proofs.Names.{option_eq-Decides}
use Rattle.hd_calls.specs.Satisfies.{is_child}
use Rattle.hd_calls.specs.Places.{is_equal_twin, is_key_taken, end_below}
use Rattle.hd_calls.specs.Laws.{begin_below, NewRowsGoBetweenTwins}
use Rattle.hd_calls.proofs.Searches.{narrowed, least_passed}
use Rattle.hd_calls.proofs.Spans.{IsEnd, end_is, nearest_is}
use Rattle.hd_calls.proofs.PlaceOrder.{later_after, place_is, place_first, twin_before, twin_behind}

-- the rows of a parent are in its span
pub of_parent : (types : List SegmentType) (rows : List Segment) (q j : ℕ) → j < length rows → parent_row types rows j ≡ Some q → (q < j) × (j < end_of types rows q)
of_parent types rows q j within is = (found.0, by_next span.next)
  where
    found : (q < j) × (level_at types rows q < level_at types rows j) × ((k : ℕ) → q < k → k < j → level_at types rows j ≤ level_at types rows k)
    found = nearest_is types rows (level_at types rows j) j q is

    span : IsEnd types rows q (end_of types rows q)
    span = end_is types rows q (omega (arith, found.0))

    by_next : (end_of types rows q ≡ length rows) ⊎ (level_at types rows (end_of types rows q) ≤ level_at types rows q) → j < end_of types rows q
    by_next (inl all) = omega (arith, all)
    by_next (inr low) = elim (cases_lt j (end_of types rows q)) [
      | inl less ↦ less
      | inr past ↦ elim (cases_lt (end_of types rows q) j) [
        | inl before ↦ (let deep : level_at types rows j ≤ level_at types rows (end_of types rows q) = found.2 (end_of types rows q) (omega (arith, span.behind)) before in
            absurd (omega (arith, found.1, low, deep)))
        | inr here ↦ (let same : end_of types rows q ≡ j = omega arith in
            let flat : level_at types rows j ≤ level_at types rows q = subst (λ (k : ℕ). level_at types rows k ≤ level_at types rows q) same low in
            absurd (omega (arith, found.1, flat)))
      ]
    ]

-- a key that is not taken has no equal twin
pub no_equal_twin : (types : List SegmentType) (rows : List Segment) (parent : Option ℕ) (new : Segment) → is_key_taken types rows parent new ≡ false
    → has_unique_key types new.code ≡ true → (j : ℕ) → j < length rows → is_equal_twin types rows parent new j ≡ false
no_equal_twin types rows parent new free unique j within = elim (cases_Bool (is_equal_twin types rows parent new j)) [
  | inr none ↦ none
  | inl equal ↦ (let found : is_some (first_from (is_equal_twin types rows parent new) 0 (length rows)) ≡ true =
      least_passed (is_equal_twin types rows parent new) (length rows - 0) 0 j (omega arith) (omega arith) equal in
      let taken : is_key_taken types rows parent new ≡ true = and_from (has_unique_key types new.code) _ unique found in cc)
]

-- among the rows of the parent alone the first of a type is the same
narrow : (types : List SegmentType) (rows : List Segment) (code : ℕ) (parent : Option ℕ) → IfSome parent (λ q. q < length rows)
    → first_from (λ j. is_child types rows parent j && nat_le code (row_at rows j).code) 0 (length rows)
    ≡ first_from (λ j. is_child types rows parent j && nat_le code (row_at rows j).code) (begin_below parent) (end_below types rows parent)
narrow types rows code None there = refl
narrow types rows code (Some q) there =
    let span : IsEnd types rows q (end_of types rows q) = end_is types rows q there in
    narrowed (λ j. is_child types rows (Some q) j && nat_le code (row_at rows j).code) (q + 1) (end_of types rows q) (length rows)
    (omega (arith, span.behind)) span.within
    (λ j low. outside j (omega (arith, low, there)) (λ of. absurd (omega (arith, low, (of_parent types rows q j (omega (arith, low, there)) of).0))))
    (λ j high within. outside j within (λ of. absurd (omega (arith, high, (of_parent types rows q j within of).1))))
  where
    outside : (j : ℕ) → j < length rows → (parent_row types rows j ≡ Some q → ⊥) → (is_child types rows (Some q) j && nat_le code (row_at rows j).code) ≡ false
    outside j within other = elim (cases_Bool (is_child types rows (Some q) j)) [
      | inl child ↦ absurd (other ((option_eq-Decides _ _).0 child))
      | inr none ↦ ap (λ (b : Bool). b && nat_le code (row_at rows j).code) none
    ]

pub between_twins : NewRowsGoBetweenTwins
between_twins block_size frspc types rows parent standing rule new formed valid fits there free =
    let levels : Leveled types = leveled block_size frspc types formed in
    let ordered : IsInSequence types rows = in_sequence types levels rows valid in
    let t = typed types new fits in
    record {
      later = λ j k less of after_. later_after types levels rows ordered parent standing rule new j k less of.0 of.1 after_;
      behind = λ y of not_after last. place_is types levels rows ordered parent standing rule new y of.0 of.1 not_after (λ k less within is. last k less (within, is));
      first = λ twins. place_first types rows parent standing rule new (λ j within is same. twins j (within, is) same)
          ∙ ap (λ (o : Option ℕ). unwrap_or o (end_below types rows parent)) (narrow types rows new.code parent there);
      twins_before = λ y of same not_after. twin_before types levels rows ordered parent standing rule new y t.0 t.1 of.1 same
          (λ unique. no_equal_twin types rows parent new free unique y of.0) not_after;
      twins_behind = λ z of same after_. twin_behind types rows parent standing rule new z t.0 t.1 same
          (λ unique. no_equal_twin types rows parent new free unique z of.0) after_;
    }
