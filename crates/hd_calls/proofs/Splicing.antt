-- Rows put in among others, or seen from behind, rows taken out: what the parents, spans and paths of the others are.
use Rattle.std.proofs.Common.{◌≡◌, ℕ, zero, suc, ◌+◌, ◌-◌, ◌<◌, ◌≤◌, List, length, true, false, Bool, cond, arith, ap, sym, ◌∙◌, Option, Some, None, refl, inl, inr, ◌⊎◌}
use Rattle.std.specs.Prelude.{nat_lt, nat_le, option_map}
use Rattle.std.proofs.lemmas.Bool.{cases_lt, cond-true, cond-false, le-leb, lt-leb, lt-ltb}
use Rattle.hd_dbd.specs.Types.{SegmentType}
use Rattle.hd_dbd.specs.Segment.{Segment}
use Rattle.hd_dbd.specs.Rows.{level, row_fits, siblings_in_order}
use Rattle.hd_dbd.specs.Hierarchy.{parent_of}
use Rattle.hd_dbd.specs.Paths.{row_at, level_at, nearest_above, parent_row, end_of}
use Rattle.hd_dbd.specs.Laws.{IsInSequence}
use Rattle.hd_dbd.proofs.Names.{option_eq-Decides}
use Rattle.hd_calls.specs.Moves.{number_after_insert}
use Rattle.hd_calls.proofs.Spans.{IsEnd, end_is, nearest_past, nearest_is}

-- The new rows are the old ones with so many put in at a number, none of which is higher than the row that stood there.
pub record IsSpliced (types : List SegmentType) (old new : List Segment) (p count : ℕ) : Type 0 where
  pub whole : length new ≡ length old + count
  pub room : p ≤ length old
  pub front : (k : ℕ) → k < p → row_at new k ≡ row_at old k
  pub back : (k : ℕ) → p ≤ k → k < length old → row_at new (k + count) ≡ row_at old k
  pub deep : (k : ℕ) → p ≤ k → k < p + count → p < length old → level_at types old p ≤ level_at types new k

module _ (types : List SegmentType) (old new : List Segment) (p count : ℕ) (spliced : IsSpliced types old new p count) where
  abbrev up : ℕ → ℕ
  up k = number_after_insert p count k

  pub up_front : (k : ℕ) → k < p → up k ≡ k
  up_front k low = cond-false (nat_le p k) (k + count) k (lt-leb p k low)

  pub up_back : (k : ℕ) → p ≤ k → up k ≡ k + count
  up_back k high = cond-true (nat_le p k) (k + count) k (le-leb p k high)

  pub row_up : (k : ℕ) → k < length old → row_at new (up k) ≡ row_at old k
  row_up k within = elim (cases_lt k p) [
    | inl low ↦ ap (λ (j : ℕ). row_at new j) (up_front k low) ∙ spliced.front k low
    | inr high ↦ ap (λ (j : ℕ). row_at new j) (up_back k high) ∙ spliced.back k high within
  ]

  pub level_up : (k : ℕ) → k < length old → level_at types new (up k) ≡ level_at types old k
  level_up k within = ap (λ (r : Segment). level types r) (row_up k within)

  pub up_less : (i j : ℕ) → i < j → up i < up j
  up_less i j less = elim (cases_lt i p) [
    | inl low ↦ elim (cases_lt j p) [
      | inl lower ↦ omega (arith, up_front i low, up_front j lower)
      | inr high ↦ omega (arith, up_front i low, up_back j high)
    ]
    | inr high ↦ (let higher : p ≤ j = omega arith in omega (arith, up_back i high, up_back j higher))
  ]

  pub up_within : (i : ℕ) → i < length old → up i < length new
  up_within i within = elim (cases_lt i p) [
    | inl low ↦ omega (arith, up_front i low, spliced.whole)
    | inr high ↦ omega (arith, up_back i high, spliced.whole)
  ]

  pub up_one : (i j : ℕ) → up i ≡ up j → i ≡ j
  up_one i j same = elim (cases_lt i j) [
    | inl less ↦ absurd (omega (arith, up_less i j less, same))
    | inr more ↦ elim (cases_lt j i) [
      | inl less ↦ absurd (omega (arith, up_less j i less, same))
      | inr even ↦ omega arith
    ]
  ]

  -- ---- parents

  same_test : (l k : ℕ) → k < length old → nat_lt (level_at types new (up k)) l ≡ nat_lt (level_at types old k) l
  same_test l k within = ap (λ (m : ℕ). nat_lt m l) (level_up k within)

  -- one row more
  nearest_step : (l k n : ℕ) → k < length old → n ≡ up k → nearest_above types new l n ≡ option_map up (nearest_above types old l k)
      → nearest_above types new l (suc n) ≡ option_map up (nearest_above types old l (suc k))
  nearest_step l k n within at rest =
      ap (λ (m : ℕ). cond (nat_lt (level_at types new m) l) (Some m) (nearest_above types new l n)) at
      ∙ ap (λ (b : Bool). cond b (Some (up k)) (nearest_above types new l n)) (same_test l k within)
      ∙ by_test (nat_lt (level_at types old k) l)
    where
      by_test : (b : Bool) → cond b (Some (up k)) (nearest_above types new l n) ≡ option_map up (cond b (Some k) (nearest_above types old l k))
      by_test true = refl
      by_test false = rest

  -- before the place
  pub nearest_low : (l n : ℕ) → n ≤ p → nearest_above types new l n ≡ option_map up (nearest_above types old l n)
  nearest_low l zero low = refl
  nearest_low l (suc n) low = nearest_step l n n (omega (arith, spliced.room)) (sym (up_front n (omega arith))) (nearest_low l n (omega arith))

  -- behind it, for a level that no row put in is above
  nearest_flat : (l d : ℕ) → p + d ≤ length old → ((k : ℕ) → p ≤ k → k < p + count → l ≤ level_at types new k)
      → nearest_above types new l (p + d + count) ≡ option_map up (nearest_above types old l (p + d))
  nearest_flat l zero within flat =
      let none : p + 0 ≡ p = omega arith in
      ap (λ (n : ℕ). nearest_above types new l (n + count)) none
      ∙ nearest_past types new l p count flat
      ∙ nearest_low l p (omega arith)
      ∙ ap (λ (n : ℕ). option_map up (nearest_above types old l n)) (sym none)
  nearest_flat l (suc d) within flat =
      let more : p + suc d ≡ suc (p + d) = omega arith in
      let moved : p + suc d + count ≡ suc (p + d + count) = omega arith in
      ap (λ (n : ℕ). nearest_above types new l n) moved
      ∙ nearest_step l (p + d) (p + d + count) (omega arith) (sym (up_back (p + d) (omega arith))) (nearest_flat l d (omega arith) flat)
      ∙ ap (λ (n : ℕ). option_map up (nearest_above types old l n)) (sym more)

  -- behind it, for a level that the row which stood there is above
  nearest_deep : (l d : ℕ) → p + suc d ≤ length old → level_at types old p < l
      → nearest_above types new l (p + suc d + count) ≡ option_map up (nearest_above types old l (p + suc d))
  nearest_deep l zero within high =
      let one : p + 1 ≡ suc p = omega arith in
      let moved : p + 1 + count ≡ suc (p + count) = omega arith in
      let at : up p ≡ p + count = up_back p (omega arith) in
      let test : nat_lt (level_at types old p) l ≡ true = lt-ltb (level_at types old p) l high in
      ap (λ (n : ℕ). nearest_above types new l n) moved
      ∙ cond-true (nat_lt (level_at types new (p + count)) l) (Some (p + count)) (nearest_above types new l (p + count))
      (ap (λ (n : ℕ). nat_lt (level_at types new n) l) (sym at) ∙ same_test l p (omega arith) ∙ test)
      ∙ ap (λ (n : ℕ). Some n) (sym at)
      ∙ sym (ap (λ (n : ℕ). option_map up (nearest_above types old l n)) one ∙ ap (λ (o : Option ℕ). option_map up o) (cond-true (nat_lt (level_at types old p) l) (Some p) (nearest_above types old l p) test))
  nearest_deep l (suc d) within high =
      let more : p + suc (suc d) ≡ suc (p + suc d) = omega arith in
      let moved : p + suc (suc d) + count ≡ suc (p + suc d + count) = omega arith in
      ap (λ (n : ℕ). nearest_above types new l n) moved
      ∙ nearest_step l (p + suc d) (p + suc d + count) (omega arith) (sym (up_back (p + suc d) (omega arith))) (nearest_deep l d (omega arith) high)
      ∙ ap (λ (n : ℕ). option_map up (nearest_above types old l n)) (sym more)

  -- each old row has the parent that it had
  pub parent_up : (j : ℕ) → j < length old → parent_row types new (up j) ≡ option_map up (parent_row types old j)
  parent_up j within =
      ap (λ (l : ℕ). nearest_above types new l (up j)) (level_up j within)
      ∙ elim (cases_lt j p) [
        | inl low ↦ ap (λ (n : ℕ). nearest_above types new (level_at types old j) n) (up_front j low) ∙ nearest_low (level_at types old j) j (omega arith)
        | inr high ↦ ap (λ (n : ℕ). nearest_above types new (level_at types old j) n) (up_back j high) ∙ behind (j - p) (omega arith)
      ]
    where
      behind : (d : ℕ) → j ≡ p + d → nearest_above types new (level_at types old j) (j + count) ≡ option_map up (nearest_above types old (level_at types old j) j)
      behind d at = elim (cases_lt (level_at types old p) (level_at types old j)) [
        | inl deep ↦ by_d d at deep
        | inr flat ↦ ap (λ (n : ℕ). nearest_above types new (level_at types old j) (n + count)) at
            ∙ nearest_flat (level_at types old j) d (omega arith) (λ k from to. (let low : level_at types old p ≤ level_at types new k = spliced.deep k from to (omega arith) in omega arith))
            ∙ ap (λ (n : ℕ). option_map up (nearest_above types old (level_at types old j) n)) (sym at)
      ]
        where
          by_d : (d : ℕ) → j ≡ p + d → level_at types old p < level_at types old j → nearest_above types new (level_at types old j) (j + count) ≡ option_map up (nearest_above types old (level_at types old j) j)
          by_d zero at deep = (let same : j ≡ p = omega arith in absurd (omega (arith, ap (λ (n : ℕ). level_at types old n) same, deep)))
          by_d (suc d) at deep =
              ap (λ (n : ℕ). nearest_above types new (level_at types old j) (n + count)) at
              ∙ nearest_deep (level_at types old j) d (omega arith) deep
              ∙ ap (λ (n : ℕ). option_map up (nearest_above types old (level_at types old j) n)) (sym at)

  -- what is said of a parent's row
  pub parent_code_up : (j : ℕ) → j < length old → option_map (λ m. (row_at new m).code) (parent_row types new (up j)) ≡ option_map (λ m. (row_at old m).code) (parent_row types old j)
  parent_code_up j within = ap (λ (o : Option ℕ). option_map (λ m. (row_at new m).code) o) (parent_up j within) ∙ by_parent (parent_row types old j) refl
    where
      by_parent : (o : Option ℕ) → parent_row types old j ≡ o → option_map (λ m. (row_at new m).code) (option_map up o) ≡ option_map (λ m. (row_at old m).code) o
      by_parent None is = refl
      by_parent (Some m) is = ap (λ (r : Segment). Some r.code) (row_up m (omega (arith, within, (nearest_is types old (level_at types old j) j m is).0)))

  -- ---- rows taken out

  -- The old rows are in hierarchic sequence where the new ones are.
  pub rest_in_sequence : IsInSequence types new → IsInSequence types old
  rest_in_sequence ordered = record {
    fit = λ i within. ap (λ (r : Segment). row_fits types r) (sym (row_up i within)) ∙ ordered.fit (up i) (up_within i within);
    parents = λ i within. sym (parent_code_up i within) ∙ ordered.parents (up i) (up_within i within) ∙ ap (λ (r : Segment). parent_of types r.code) (row_up i within);
    siblings = λ i j less within one.
        ap (λ (r : Segment). siblings_in_order types r (row_at old j)) (sym (row_up i (omega arith)))
        ∙ ap (λ (r : Segment). siblings_in_order types (row_at new (up i)) r) (sym (row_up j within))
        ∙ ordered.siblings (up i) (up j) (up_less i j less) (up_within j within) ((option_eq-Decides _ _).1
        (parent_up i (omega arith) ∙ ap (λ (o : Option ℕ). option_map up o) ((option_eq-Decides _ _).0 one) ∙ sym (parent_up j within)));
  }

  -- ---- spans

  -- an old row depends on another in the new rows just where it did
  pub below_up : (i j : ℕ) → i < length old → i < j → j < end_of types old i → up j < end_of types new (up i)
  below_up i j within less below = elim (cases_lt (up j) (end_of types new (up i))) [
    | inl fine ↦ fine
    | inr past ↦ by_next past span.next
  ]
    where
      old_span : IsEnd types old i (end_of types old i)
      old_span = end_is types old i within

      span : IsEnd types new (up i) (end_of types new (up i))
      span = end_is types new (up i) (up_within i within)

      deeper : (k : ℕ) → i < k → k ≤ j → level_at types old i < level_at types old k
      deeper k from to = old_span.deeper k (omega arith) (omega (arith, below))

      -- no row from there up to row j is as high
      no_end : (e : ℕ) → up i < e → e ≤ up j → level_at types new e ≤ level_at types old i → ⊥
      no_end e from to low = elim (cases_lt e p) [
        | inl front ↦ (let at : up e ≡ e = up_front e front in
            let apart : i < e = elim (cases_lt i e) [ inl fine ↦ fine | inr none ↦ (let wrong : up e ≤ up i = not_less e i none in absurd (omega (arith, wrong, at))) ] in
            let upto : e ≤ j = elim (cases_lt j e) [ inl none ↦ (let wrong : up j < up e = up_less j e none in absurd (omega (arith, wrong, at))) | inr fine ↦ fine ] in
            let deep : level_at types old i < level_at types old e = deeper e apart upto in
            absurd (omega (arith, deep, low, ap (λ (n : ℕ). level_at types new n) at, level_up e (omega (arith, spliced.room)))))
        | inr behind ↦ elim (cases_lt e (p + count)) [
          | inl inside ↦ (let before : i < p = elim (cases_lt i p) [ inl fine ↦ fine | inr none ↦ (let high : up i ≡ i + count = up_back i none in absurd (omega (arith, high))) ] in
              let after_ : p ≤ j = elim (cases_lt j p) [ inl none ↦ (let same : up j ≡ j = up_front j none in absurd (omega (arith, same))) | inr fine ↦ fine ] in
              let there : p < length old = omega (arith, after_, old_span.within, below) in
              let high : level_at types old p ≤ level_at types new e = spliced.deep e behind inside there in
              let deep : level_at types old i < level_at types old p = deeper p before after_ in
              absurd (omega (arith, high, deep, low)))
          | inr past ↦ (let at : up (e - count) ≡ e - count + count = up_back (e - count) (omega arith) in
              let whole : up (e - count) ≡ e = omega (arith, at) in
              let apart : i < e - count = elim (cases_lt i (e - count)) [ inl fine ↦ fine | inr none ↦ (let wrong : up (e - count) ≤ up i = not_less (e - count) i none in absurd (omega (arith, wrong, whole))) ] in
              let upto : e - count ≤ j = elim (cases_lt j (e - count)) [ inl none ↦ (let wrong : up j < up (e - count) = up_less j (e - count) none in absurd (omega (arith, wrong, whole))) | inr fine ↦ fine ] in
              let deep : level_at types old i < level_at types old (e - count) = deeper (e - count) apart upto in
              absurd (omega (arith, deep, low, ap (λ (n : ℕ). level_at types new n) whole, level_up (e - count) (omega (arith, upto, below, old_span.within)))))
        ]
      ]
        where
          not_less : (a b : ℕ) → a ≤ b → up a ≤ up b
          not_less a b le = elim (cases_lt a b) [
            | inl less ↦ (let fine : up a < up b = up_less a b less in omega (arith, fine))
            | inr more ↦ (let same : a ≡ b = omega arith in omega (arith, ap up same))
          ]

      by_next : end_of types new (up i) ≤ up j → (end_of types new (up i) ≡ length new) ⊎ (level_at types new (end_of types new (up i)) ≤ level_at types new (up i)) → up j < end_of types new (up i)
      by_next past (inl all) = omega (arith, all, up_within j (omega (arith, below, old_span.within)))
      by_next past (inr low) =
          absurd (no_end (end_of types new (up i)) (omega (arith, span.behind)) past (omega (arith, low, level_up i within)))

  pub below_down : (i j : ℕ) → i < j → j < length old → up j < end_of types new (up i) → j < end_of types old i
  below_down i j less within below = elim (cases_lt j (end_of types old i)) [
    | inl fine ↦ fine
    | inr past ↦ by_next past (up_to past) old_span.next
  ]
    where
      old_span : IsEnd types old i (end_of types old i)
      old_span = end_is types old i (omega arith)

      span : IsEnd types new (up i) (end_of types new (up i))
      span = end_is types new (up i) (up_within i (omega arith))

      up_to : end_of types old i ≤ j → up (end_of types old i) ≤ up j
      up_to past = elim (cases_lt (end_of types old i) j) [
        | inl before ↦ (let fine : up (end_of types old i) < up j = up_less (end_of types old i) j before in omega (arith, fine))
        | inr here ↦ (let same : end_of types old i ≡ j = omega (arith, past) in omega (arith, ap up same))
      ]

      by_next : end_of types old i ≤ j → up (end_of types old i) ≤ up j → (end_of types old i ≡ length old) ⊎ (level_at types old (end_of types old i) ≤ level_at types old i) → j < end_of types old i
      by_next past upto (inl all) = omega (arith, all)
      by_next past upto (inr low) =
          let apart : up i < up (end_of types old i) = up_less i (end_of types old i) old_span.behind in
          let deep : level_at types new (up i) < level_at types new (up (end_of types old i)) = span.deeper (up (end_of types old i)) (omega (arith, apart)) (omega (arith, upto, below)) in
          absurd (omega (arith, deep, low, level_up i (omega arith), level_up (end_of types old i) (omega (arith, past)), past))
