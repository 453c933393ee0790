-- A row's span, and where a new row goes in behind its twin.
use Rattle.std.proofs.Common.{◌≡◌, ℕ, zero, suc, ◌+◌, ◌-◌, ◌<◌, ◌≤◌, List, length, true, false, Bool, cond, arith, ap, sym, ◌∙◌, subst, Option, Some, None, refl, inl, inr, ◌⊎◌}
use Rattle.std.specs.Prelude.{nat_lt, nat_le, unwrap_or, option_map}
use Rattle.std.proofs.lemmas.Bool.{cases_Bool, cond-true, cond-false, ltb-true, ltb-false, leb-true, leb-false, le-ltb, cases_lt}
use Rattle.hd_dbd.specs.Types.{SegmentType}
use Rattle.hd_dbd.specs.Segment.{Segment}
use Rattle.hd_dbd.specs.Hierarchy.{parent_of}
use Rattle.hd_dbd.specs.Paths.{row_at, level_at, nearest_above, parent_row, end_of, end_within}
use Rattle.hd_dbd.specs.Searches.{least_within, first_from}
use Rattle.hd_dbd.specs.Laws.{IsInSequence}
use Rattle.hd_dbd.proofs.LevelLaw.{Leveled, depth_below}
use Rattle.hd_calls.specs.Places.{end_below}
use Rattle.hd_calls.proofs.Searches.{least_none}

-- ---- ends

-- rows deeper than a level, from i on up to e
abbrev AreDeeper : List SegmentType → List Segment → ℕ → ℕ → ℕ → Type 0
AreDeeper types rows l i e = (k : ℕ) → i ≤ k → k < e → l < level_at types rows k

-- what a scan finds is the first row that is no deeper, or the end of the scan
end_found : (types : List SegmentType) (rows : List Segment) (l n i : ℕ)
    → (i ≤ end_within types rows l n i) × (end_within types rows l n i ≤ i + n) × AreDeeper types rows l i (end_within types rows l n i)
    × ((end_within types rows l n i ≡ i + n) ⊎ (level_at types rows (end_within types rows l n i) ≤ l))
end_found types rows l zero i = (omega arith, omega arith, λ k low high. absurd (omega arith), inl (omega arith))
end_found types rows l (suc n) i = by_level (nat_le (level_at types rows i) l) refl (end_within types rows l n (i + 1)) (end_found types rows l n (i + 1))
  where
    by_level : (b : Bool) → nat_le (level_at types rows i) l ≡ b → (e : ℕ)
        → (i + 1 ≤ e) × (e ≤ i + 1 + n) × AreDeeper types rows l (i + 1) e × ((e ≡ i + 1 + n) ⊎ (level_at types rows e ≤ l))
        → (i ≤ cond b i e) × (cond b i e ≤ i + suc n) × AreDeeper types rows l i (cond b i e) × ((cond b i e ≡ i + suc n) ⊎ (level_at types rows (cond b i e) ≤ l))
    by_level true is e rest = (omega arith, omega arith, λ k low high. absurd (omega arith), inr (leb-true (level_at types rows i) l is))
    by_level false is e rest = (
      omega (arith, rest.0),
      omega (arith, rest.1),
      λ k low high. elim (cases_lt i k) [
        | inl behind ↦ rest.2 k (omega arith) high
        | inr here ↦ (let same : i ≡ k = omega arith in subst (λ (k : ℕ). l < level_at types rows k) same (leb-false (level_at types rows i) l is))
      ],
      by_end rest.3,
    )
      where
        by_end : (e ≡ i + 1 + n) ⊎ (level_at types rows e ≤ l) → (e ≡ i + suc n) ⊎ (level_at types rows e ≤ l)
        by_end (inl past) = inl (omega arith)
        by_end (inr low) = inr low

-- The span of a row: deeper rows up to its end, behind which none is left or one that is no deeper.
pub record IsEnd (types : List SegmentType) (rows : List Segment) (i e : ℕ) : Type 0 where
  pub behind : i < e
  pub within : e ≤ length rows
  pub deeper : AreDeeper types rows (level_at types rows i) (i + 1) e
  pub next : (e ≡ length rows) ⊎ (level_at types rows e ≤ level_at types rows i)

pub end_is : (types : List SegmentType) (rows : List Segment) (i : ℕ) → i < length rows → IsEnd types rows i (end_of types rows i)
end_is types rows i within =
    let found = end_found types rows (level_at types rows i) (length rows - (i + 1)) (i + 1) in
    record {
      behind = omega (arith, found.0);
      within = omega (arith, found.1);
      deeper = found.2;
      next = by_end found.3;
    }
  where
    by_end : (end_of types rows i ≡ i + 1 + (length rows - (i + 1))) ⊎ (level_at types rows (end_of types rows i) ≤ level_at types rows i)
        → (end_of types rows i ≡ length rows) ⊎ (level_at types rows (end_of types rows i) ≤ level_at types rows i)
    by_end (inl past) = inl (omega (arith, past))
    by_end (inr low) = inr low

-- there is one end
pub one_end : (types : List SegmentType) (rows : List Segment) (i a b : ℕ) → IsEnd types rows i a → IsEnd types rows i b → a ≡ b
one_end types rows i a b x y = elim (cases_lt a b) [
  | inl less ↦ absurd (shorter a b x y less)
  | inr more ↦ elim (cases_lt b a) [
    | inl less ↦ absurd (shorter b a y x less)
    | inr same ↦ omega arith
  ]
]
  where
    shorter : (a b : ℕ) → IsEnd types rows i a → IsEnd types rows i b → a < b → ⊥
    shorter a b x y less = by_next x.next
      where
        by_next : (a ≡ length rows) ⊎ (level_at types rows a ≤ level_at types rows i) → ⊥
        by_next (inl past) = absurd (omega (arith, y.within))
        by_next (inr low) = (let deep : level_at types rows i < level_at types rows a = y.deeper a (omega (arith, x.behind)) less in absurd (omega arith))

-- ---- parents

-- past rows that are no higher the nearest above is the same
pub nearest_past : (types : List SegmentType) (rows : List Segment) (l a d : ℕ) → ((k : ℕ) → a ≤ k → k < a + d → l ≤ level_at types rows k)
    → nearest_above types rows l (a + d) ≡ nearest_above types rows l a
nearest_past types rows l a zero deep = (let none : a + 0 ≡ a = omega arith in ap (λ (n : ℕ). nearest_above types rows l n) none)
nearest_past types rows l a (suc d) deep =
    let up : a + suc d ≡ suc (a + d) = omega arith in
    ap (λ (n : ℕ). nearest_above types rows l n) up
    ∙ cond-false (nat_lt (level_at types rows (a + d)) l) (Some (a + d)) (nearest_above types rows l (a + d)) (le-ltb (level_at types rows (a + d)) l (deep (a + d) (omega arith) (omega arith)))
    ∙ nearest_past types rows l a d (λ k low high. deep k low (omega arith))

-- what is nearest above: it is higher, and no row between is
pub nearest_is : (types : List SegmentType) (rows : List Segment) (l n k : ℕ) → nearest_above types rows l n ≡ Some k
    → (k < n) × (level_at types rows k < l) × ((j : ℕ) → k < j → j < n → l ≤ level_at types rows j)
nearest_is types rows l zero k is = cc
nearest_is types rows l (suc n) k is = by_level (nat_lt (level_at types rows n) l) refl is (λ more. nearest_is types rows l n k more)
  where
    by_level : (b : Bool) → nat_lt (level_at types rows n) l ≡ b → cond b (Some n) (nearest_above types rows l n) ≡ Some k
        → (nearest_above types rows l n ≡ Some k → (k < n) × (level_at types rows k < l) × ((j : ℕ) → k < j → j < n → l ≤ level_at types rows j))
        → (k < suc n) × (level_at types rows k < l) × ((j : ℕ) → k < j → j < suc n → l ≤ level_at types rows j)
    by_level true high is more =
        let same : n ≡ k = cc in
        (omega arith, subst (λ (k : ℕ). level_at types rows k < l) same (ltb-true (level_at types rows n) l high), λ j low below. absurd (omega arith))
    by_level false low is more =
        let rest = more is in (
          omega (arith, rest.0),
          rest.1,
          λ j above below. elim (cases_lt j n) [
            | inl before ↦ rest.2 j above before
            | inr last ↦ (let same : n ≡ j = omega arith in subst (λ (j : ℕ). l ≤ level_at types rows j) same (ltb-false (level_at types rows n) l low))
          ],
        )

-- a row inside a span stands below a row of the span
inside_below : (types : List SegmentType) (rows : List Segment) (y e k : ℕ) (p : ℕ) → IsEnd types rows y e → y < k → k < e → parent_row types rows k ≡ Some p → y ≤ p
inside_below types rows y e k p span after_ before_ is =
    let found = nearest_is types rows (level_at types rows k) k p is in
    let deep : level_at types rows y < level_at types rows k = span.deeper k (omega arith) before_ in
    elim (cases_lt p y) [
      | inl less ↦ (let low : level_at types rows k ≤ level_at types rows y = found.2 y less after_ in absurd (omega arith))
      | inr more ↦ more
    ]

-- where none is nearest above, no row is
none_is : (types : List SegmentType) (rows : List Segment) (l n j : ℕ) → nearest_above types rows l n ≡ None → j < n → l ≤ level_at types rows j
none_is types rows l zero j is below = absurd (omega arith)
none_is types rows l (suc n) j is below = by_level (nat_lt (level_at types rows n) l) refl is (λ more low. none_is types rows l n j more low)
  where
    by_level : (b : Bool) → nat_lt (level_at types rows n) l ≡ b → cond b (Some n) (nearest_above types rows l n) ≡ None
        → (nearest_above types rows l n ≡ None → j < n → l ≤ level_at types rows j) → l ≤ level_at types rows j
    by_level true high is more = cc
    by_level false low is more = elim (cases_lt j n) [
      | inl before ↦ more is before
      | inr last ↦ (let same : n ≡ j = omega arith in subst (λ (j : ℕ). l ≤ level_at types rows j) same (ltb-false (level_at types rows n) l low))
    ]

-- ---- the first that passes

least_at : (test : ℕ → Bool) (n i d : ℕ) → d < n → ((j : ℕ) → i ≤ j → j < i + d → test j ≡ false) → test (i + d) ≡ true → least_within test n i ≡ Some (i + d)
least_at test zero i d within none here = absurd (omega arith)
least_at test (suc n) i zero within none here =
    let same : i + 0 ≡ i = omega arith in
    cond-true (test i) (Some i) (least_within test n (i + 1)) (ap test (sym same) ∙ here) ∙ ap (λ (k : ℕ). Some k) (sym same)
least_at test (suc n) i (suc d) within none here =
    let up : i + suc d ≡ i + 1 + d = omega arith in
    cond-false (test i) (Some i) (least_within test n (i + 1)) (none i (omega arith) (omega arith))
    ∙ least_at test n (i + 1) d (omega arith) (λ j low high. none j (omega arith) (omega arith)) (ap test (sym up) ∙ here)
    ∙ ap (λ (k : ℕ). Some k) (sym up)

-- ---- the row behind a span

module _ (types : List SegmentType) (leveled : Leveled types) (rows : List Segment) (ordered : IsInSequence types rows) where
  -- a row's level is one more than its parent's
  level_up : (i p : ℕ) → i < length rows → parent_row types rows i ≡ Some p → level_at types rows i ≡ level_at types rows p + 1
  level_up i p within is =
      let law : level_at types rows i ≡ depth_below types (parent_of types (row_at rows i).code) + 1 = leveled.law (row_at rows i) (ordered.fit i within) in
      let code : parent_of types (row_at rows i).code ≡ Some (row_at rows p).code =
      sym (ordered.parents i within) ∙ ap (λ (o : Option ℕ). option_map (λ j. (row_at rows j).code) o) is in
      law ∙ ap (λ (o : Option ℕ). depth_below types o + 1) code

  level_first : (i : ℕ) → i < length rows → parent_row types rows i ≡ None → level_at types rows i ≡ 1
  level_first i within is =
      let law : level_at types rows i ≡ depth_below types (parent_of types (row_at rows i).code) + 1 = leveled.law (row_at rows i) (ordered.fit i within) in
      let code : parent_of types (row_at rows i).code ≡ None = sym (ordered.parents i within) ∙ ap (λ (o : Option ℕ). option_map (λ j. (row_at rows j).code) o) is in
      law ∙ ap (λ (o : Option ℕ). depth_below types o + 1) code

  pub some_level : (i : ℕ) → i < length rows → 0 < level_at types rows i
  some_level i within =
      let law : level_at types rows i ≡ depth_below types (parent_of types (row_at rows i).code) + 1 = leveled.law (row_at rows i) (ordered.fit i within) in
      omega arith

  -- behind the span of a row comes a row of its parent, or the end of what depends on the parent
  behind_span : (parent : Option ℕ) (y e : ℕ) → y < length rows → parent_row types rows y ≡ parent → IsEnd types rows y e
      → (e ≡ end_below types rows parent) ⊎ ((e < length rows) × (parent_row types rows e ≡ parent))
  behind_span None y e within is span = by_next span.next
    where
      top : level_at types rows y ≡ 1
      top = level_first y within is

      by_next : (e ≡ length rows) ⊎ (level_at types rows e ≤ level_at types rows y) → (e ≡ length rows) ⊎ ((e < length rows) × (parent_row types rows e ≡ None))
      by_next (inl past) = inl past
      by_next (inr low) = elim (cases_lt e (length rows)) [
        | inr past ↦ inl (omega (arith, span.within))
        | inl inside ↦ (let some : 0 < level_at types rows e = some_level e inside in
            let same : level_at types rows e ≡ level_at types rows y = omega (arith, top) in
            let split : e ≡ y + (e - y) = omega (arith, span.behind) in
            inr (
              inside,
              ap (λ (l : ℕ). nearest_above types rows l e) same
                  ∙ ap (λ (n : ℕ). nearest_above types rows (level_at types rows y) n) split
                  ∙ nearest_past types rows (level_at types rows y) y (e - y) (λ k from to. span_deep k from (omega (arith, span.behind)))
                  ∙ is,
            ))
      ]
        where
          span_deep : (k : ℕ) → y ≤ k → k < e → level_at types rows y ≤ level_at types rows k
          span_deep k from to = elim (cases_lt y k) [
            | inl more ↦ (let deep : level_at types rows y < level_at types rows k = span.deeper k (omega arith) to in omega arith)
            | inr here ↦ (let same : y ≡ k = omega arith in subst (λ (k : ℕ). level_at types rows y ≤ level_at types rows k) same (omega arith))
          ]
  behind_span (Some q) y e within is span = by_next span.next
    where
      up : level_at types rows y ≡ level_at types rows q + 1
      up = level_up y q within is

      found : (q < y) × (level_at types rows q < level_at types rows y) × ((j : ℕ) → q < j → j < y → level_at types rows y ≤ level_at types rows j)
      found = nearest_is types rows (level_at types rows y) y q is

      span_deep : (k : ℕ) → y ≤ k → k < e → level_at types rows y ≤ level_at types rows k
      span_deep k from to = elim (cases_lt y k) [
        | inl more ↦ (let deep : level_at types rows y < level_at types rows k = span.deeper k (omega arith) to in omega arith)
        | inr here ↦ (let same : y ≡ k = omega arith in subst (λ (k : ℕ). level_at types rows y ≤ level_at types rows k) same (omega arith))
      ]

      below_q : (k : ℕ) → q + 1 ≤ k → k < e → level_at types rows q < level_at types rows k
      below_q k from to = elim (cases_lt k y) [
        | inl before ↦ (let deep : level_at types rows y ≤ level_at types rows k = found.2 k (omega arith) before in omega (arith, up))
        | inr after_ ↦ (let deep : level_at types rows y ≤ level_at types rows k = span_deep k after_ to in omega (arith, up))
      ]

      ends : (e ≡ length rows) ⊎ (level_at types rows e ≤ level_at types rows q) → e ≡ end_of types rows q
      ends next = one_end types rows q e (end_of types rows q)
          (record { behind = omega (arith, found.0, span.behind); within = span.within; deeper = below_q; next = next })
          (end_is types rows q (omega (arith, found.0)))

      by_next : (e ≡ length rows) ⊎ (level_at types rows e ≤ level_at types rows y) → (e ≡ end_of types rows q) ⊎ ((e < length rows) × (parent_row types rows e ≡ Some q))
      by_next (inl past) = inl (ends (inl past))
      by_next (inr low) = elim (cases_lt (level_at types rows q) (level_at types rows e)) [
        | inr higher ↦ inl (ends (inr higher))
        | inl deep ↦ elim (cases_lt e (length rows)) [
          | inr past ↦ inl (ends (inl (omega (arith, span.within))))
          | inl inside ↦ (let same : level_at types rows e ≡ level_at types rows y = omega (arith, up) in
              let split : e ≡ y + (e - y) = omega (arith, span.behind) in
              inr (
                inside,
                ap (λ (l : ℕ). nearest_above types rows l e) same
                    ∙ ap (λ (n : ℕ). nearest_above types rows (level_at types rows y) n) split
                    ∙ nearest_past types rows (level_at types rows y) y (e - y) (λ k from to. span_deep k from (omega (arith, span.behind)))
                    ∙ is,
              ))
        ]
      ]

  -- A new row goes in behind the span of the last row of its parent that need not come after it.
  pub place_behind : (parent : Option ℕ) (after_ : ℕ → Bool) (y : ℕ) → y < length rows → parent_row types rows y ≡ parent
      → ((j : ℕ) → after_ j ≡ true → parent_row types rows j ≡ parent)
      → after_ y ≡ false
      → ((j : ℕ) → j < y → after_ j ≡ true → after_ y ≡ true)
      → ((k : ℕ) → y < k → k < length rows → parent_row types rows k ≡ parent → after_ k ≡ true)
      → unwrap_or (first_from after_ 0 (length rows)) (end_below types rows parent) ≡ end_of types rows y
  place_behind parent after_ y within is child not_after mono last = by_behind (behind_span parent y (end_of types rows y) within is span)
    where
      span : IsEnd types rows y (end_of types rows y)
      span = end_is types rows y within

      -- no row of the span is of the parent
      apart : (j : ℕ) → y < j → j < end_of types rows y → parent_row types rows j ≡ parent → ⊥
      apart j low high of = by_parent (parent_row types rows j) refl
        where
          by_parent : (o : Option ℕ) → parent_row types rows j ≡ o → ⊥
          by_parent None none =
              (let deep : level_at types rows y < level_at types rows j = span.deeper j (omega arith) high in
              let flat : level_at types rows j ≤ level_at types rows y = none_is types rows (level_at types rows j) j y none low in absurd (omega arith))
          by_parent (Some p) some =
              (let here : y ≤ p = inside_below types rows y (end_of types rows y) j p span low high some in
              let own : parent_row types rows y ≡ Some p = is ∙ sym of ∙ some in
              absurd (omega (arith, (nearest_is types rows (level_at types rows y) y p own).0, here)))

      none_before : (j : ℕ) → 0 ≤ j → j < end_of types rows y → after_ j ≡ false
      none_before j _ high = elim (cases_Bool (after_ j)) [
        | inr no_ ↦ no_
        | inl yes_ ↦ elim (cases_lt j y) [
          | inl before ↦ (let wrong : after_ y ≡ true = mono j before yes_ in cc)
          | inr from ↦ elim (cases_lt y j) [
            | inl inside ↦ absurd (apart j inside high (child j yes_))
            | inr here ↦ (let same : j ≡ y = omega arith in ap after_ same ∙ not_after)
          ]
        ]
      ]

      no_more : (q j : ℕ) → end_of types rows y ≡ end_of types rows q → parent ≡ Some q → end_of types rows y ≤ j → j < length rows → parent_row types rows j ≡ parent → ⊥
      no_more q j same parent_is from inside of = by_next (end_is types rows q (omega (arith, (nearest_is types rows (level_at types rows y) y q (is ∙ parent_is)).0, within))).next
        where
          found : (q < j) × (level_at types rows q < level_at types rows j) × ((k : ℕ) → q < k → k < j → level_at types rows j ≤ level_at types rows k)
          found = nearest_is types rows (level_at types rows j) j q (of ∙ parent_is)

          by_next : (end_of types rows q ≡ length rows) ⊎ (level_at types rows (end_of types rows q) ≤ level_at types rows q) → ⊥
          by_next (inl past) = absurd (omega (arith, past, same, from, inside))
          by_next (inr low) = elim (cases_lt (end_of types rows q) j) [
            | inl before ↦ (let deep : level_at types rows j ≤ level_at types rows (end_of types rows q) =
                found.2 (end_of types rows q) (omega (arith, (nearest_is types rows (level_at types rows y) y q (is ∙ parent_is)).0, span.behind, same)) before in
                absurd (omega (arith, found.1, low, deep)))
            | inr here ↦ (let at : end_of types rows q ≡ j = omega (arith, same, from, here) in
                let flat : level_at types rows j ≤ level_at types rows q = subst (λ (k : ℕ). level_at types rows k ≤ level_at types rows q) at low in
                absurd (omega (arith, found.1, flat)))
          ]

      none_behind : end_of types rows y ≡ end_below types rows parent → (j : ℕ) → end_of types rows y ≤ j → j < length rows → parent_row types rows j ≡ parent → ⊥
      none_behind same j from inside of = by_parent parent refl same
        where
          by_parent : (o : Option ℕ) → parent ≡ o → end_of types rows y ≡ end_below types rows o → ⊥
          by_parent None parent_is same = absurd (omega (arith, same, from, inside))
          by_parent (Some q) parent_is same = no_more q j same parent_is from inside of

      by_behind : (end_of types rows y ≡ end_below types rows parent) ⊎ ((end_of types rows y < length rows) × (parent_row types rows (end_of types rows y) ≡ parent))
          → unwrap_or (first_from after_ 0 (length rows)) (end_below types rows parent) ≡ end_of types rows y
      by_behind (inl same) =
          ap (λ (o : Option ℕ). unwrap_or o (end_below types rows parent))
          (least_none after_ (length rows - 0) 0 (λ j low high. elim (cases_lt j (end_of types rows y)) [
            | inl before ↦ none_before j low before
            | inr from ↦ elim (cases_Bool (after_ j)) [
              | inr no_ ↦ no_
              | inl yes_ ↦ absurd (none_behind same j from (omega arith) (child j yes_))
            ]
          ]))
          ∙ sym same
      by_behind (inr next) =
          let here : after_ (0 + end_of types rows y) ≡ true = ap after_ (omega arith) ∙ last (end_of types rows y) span.behind next.0 next.1 in
          let zero_ : 0 + end_of types rows y ≡ end_of types rows y = omega arith in
          ap (λ (o : Option ℕ). unwrap_or o (end_below types rows parent))
          (least_at after_ (length rows - 0) 0 (end_of types rows y) (omega (arith, next.0)) (λ j low high. none_before j low (omega arith)) here)
          ∙ zero_
