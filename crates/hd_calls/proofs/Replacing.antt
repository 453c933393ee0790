-- Rows with other bytes of the same keys are still in hierarchic sequence.
use Rattle.std.proofs.Common.{◌≡◌, ℕ, zero, suc, ◌<◌, List, [], length, true, false, cond, arith, ap, sym, ◌∙◌, Option, Some, None, refl, inl, inr}
use Rattle.std.specs.Prelude.{nat_lt, ◌==◌, option_map}
use Rattle.std.specs.Option.{option_map_or, option_eq}
use Rattle.std.specs.Ordering.{nat_cmp, is_lt, is_le}
use Rattle.std.specs.Cmp.Lexicographic.{slice_cmp}
use Rattle.std.proofs.lemmas.Bool.{cases_eq, eq-eqb, ne_eqb, cond-true, cond-false}
use Rattle.hd_dbd.specs.Types.{SegmentType}
use Rattle.hd_dbd.specs.Segment.{Segment}
use Rattle.hd_dbd.specs.Hierarchy.{type_of, parent_of, level_of, key_in}
use Rattle.hd_dbd.specs.Rows.{key_of, row_fits, twins_in_order, siblings_in_order}
use Rattle.hd_dbd.specs.Paths.{row_at, level_at, nearest_above, parent_row}
use Rattle.hd_dbd.specs.Laws.{IsInSequence}

-- The rows of a list have the types and the keys of those of another, and their types' lengths.
pub record AreAlike (types : List SegmentType) (old new : List Segment) : Type 0 where
  pub same : length new ≡ length old
  pub codes : (i : ℕ) → (row_at new i).code ≡ (row_at old i).code
  pub keys : (i : ℕ) → key_of types (row_at new i) ≡ key_of types (row_at old i)
  pub fit : (i : ℕ) → i < length new → row_fits types (row_at new i) ≡ true

module _ (types : List SegmentType) (old new : List Segment) (alike : AreAlike types old new) where
  nearest_same : (l n : ℕ) → nearest_above types new l n ≡ nearest_above types old l n
  nearest_same l zero = refl
  nearest_same l (suc n) =
      ap (λ (c : ℕ). cond (nat_lt (level_of types c) l) (Some n) (nearest_above types new l n)) (alike.codes n)
      ∙ ap (λ (o : Option ℕ). cond (nat_lt (level_at types old n) l) (Some n) o) (nearest_same l n)

  parent_same : (i : ℕ) → parent_row types new i ≡ parent_row types old i
  parent_same i = ap (λ (c : ℕ). nearest_above types new (level_of types c) i) (alike.codes i) ∙ nearest_same (level_at types old i) i

  -- the twins' order is that of their keys
  twins_by_keys : (p r q s : Segment) → p.code ≡ r.code → q.code ≡ s.code → q.code ≡ p.code → s.code ≡ r.code → key_of types q ≡ key_of types p → key_of types s ≡ key_of types r
      → twins_in_order types p r ≡ true → twins_in_order types q s ≡ true
  twins_by_keys p r q s pr qs qp sr kq ks h =
      by_type (type_of types r.code)
      (ap (λ (c : ℕ). option_map_or (λ t. key_in t q.bytes) (type_of types c) []) (sym (qp ∙ pr)) ∙ kq ∙ ap (λ (c : ℕ). option_map_or (λ t. key_in t p.bytes) (type_of types c) []) pr)
      (ap (λ (c : ℕ). option_map_or (λ t. key_in t s.bytes) (type_of types c) []) (sym sr) ∙ ks) h
      (ap (λ (c : ℕ). option_map_or (λ t. option_map_or (λ k. cond k.unique (is_lt (slice_cmp nat_cmp (key_in t q.bytes) (key_in t s.bytes))) (is_le (slice_cmp nat_cmp (key_in t q.bytes) (key_in t s.bytes)))) t.key true) (type_of types c) false) sr)
    where
      by_type : (o : Option SegmentType) → option_map_or (λ t. key_in t q.bytes) o [] ≡ option_map_or (λ t. key_in t p.bytes) o [] → option_map_or (λ t. key_in t s.bytes) o [] ≡ option_map_or (λ t. key_in t r.bytes) o []
          → option_map_or (λ t. option_map_or (λ k. cond k.unique (is_lt (slice_cmp nat_cmp (key_in t p.bytes) (key_in t r.bytes))) (is_le (slice_cmp nat_cmp (key_in t p.bytes) (key_in t r.bytes)))) t.key true) o false ≡ true
          → twins_in_order types q s ≡ option_map_or (λ t. option_map_or (λ k. cond k.unique (is_lt (slice_cmp nat_cmp (key_in t q.bytes) (key_in t s.bytes))) (is_le (slice_cmp nat_cmp (key_in t q.bytes) (key_in t s.bytes)))) t.key true) o false
          → twins_in_order types q s ≡ true
      by_type None a b h is = cc
      by_type (Some t) a b h is =
          is ∙ ap (λ (x : List ℕ). option_map_or (λ k. cond k.unique (is_lt (slice_cmp nat_cmp x (key_in t s.bytes))) (is_le (slice_cmp nat_cmp x (key_in t s.bytes)))) t.key true) a
          ∙ ap (λ (y : List ℕ). option_map_or (λ k. cond k.unique (is_lt (slice_cmp nat_cmp (key_in t p.bytes) y)) (is_le (slice_cmp nat_cmp (key_in t p.bytes) y))) t.key true) b ∙ h

  siblings_same : (i j : ℕ) → siblings_in_order types (row_at old i) (row_at old j) ≡ true → siblings_in_order types (row_at new i) (row_at new j) ≡ true
  siblings_same i j h = elim (cases_eq (row_at old i).code (row_at old j).code) [
    | inl same ↦ (let now : (row_at new i).code ≡ (row_at new j).code = alike.codes i ∙ same ∙ sym (alike.codes j) in
        cond-true ((row_at new i).code == (row_at new j).code) (twins_in_order types (row_at new i) (row_at new j)) (nat_lt (row_at new i).code (row_at new j).code) (eq-eqb _ _ now)
        ∙ twins_by_keys (row_at old i) (row_at old j) (row_at new i) (row_at new j) same now (alike.codes i) (alike.codes j) (alike.keys i) (alike.keys j)
        (sym (cond-true ((row_at old i).code == (row_at old j).code) (twins_in_order types (row_at old i) (row_at old j)) (nat_lt (row_at old i).code (row_at old j).code) (eq-eqb _ _ same)) ∙ h))
    | inr other ↦ (let now : (row_at new i).code ≡ (row_at new j).code → ⊥ = λ same. other (sym (alike.codes i) ∙ same ∙ alike.codes j) in
        cond-false ((row_at new i).code == (row_at new j).code) (twins_in_order types (row_at new i) (row_at new j)) (nat_lt (row_at new i).code (row_at new j).code) (ne_eqb _ _ now)
        ∙ ap (λ (c : ℕ). nat_lt c (row_at new j).code) (alike.codes i) ∙ ap (λ (c : ℕ). nat_lt (row_at old i).code c) (alike.codes j)
        ∙ sym (cond-false ((row_at old i).code == (row_at old j).code) (twins_in_order types (row_at old i) (row_at old j)) (nat_lt (row_at old i).code (row_at old j).code) (ne_eqb _ _ other)) ∙ h)
  ]

  -- alike rows are in sequence together
  pub alike_in_sequence : IsInSequence types old → IsInSequence types new
  alike_in_sequence ordered = record {
    fit = alike.fit;
    parents = λ i within. ap (λ (o : Option ℕ). option_map (λ j. (row_at new j).code) o) (parent_same i)
        ∙ codes_on (parent_row types old i)
        ∙ ordered.parents i (omega (arith, alike.same, within))
        ∙ ap (λ (c : ℕ). parent_of types c) (sym (alike.codes i));
    siblings = λ i j before within one. siblings_same i j (ordered.siblings i j before (omega (arith, alike.same, within))
        (ap (λ (o : Option ℕ). option_eq (λ p q. p == q) o (parent_row types old j)) (sym (parent_same i))
        ∙ ap (λ (o : Option ℕ). option_eq (λ p q. p == q) (parent_row types new i) o) (sym (parent_same j)) ∙ one));
  }
    where
      codes_on : (o : Option ℕ) → option_map (λ j. (row_at new j).code) o ≡ option_map (λ j. (row_at old j).code) o
      codes_on None = refl
      codes_on (Some j) = ap (λ (c : ℕ). Some c) (alike.codes j)
