-- What stands on the path of the walk over rows, told by the rows' numbers.
use Rattle.std.proofs.Common.{◌≡◌, ℕ, zero, suc, ◌+◌, ◌-◌, ◌<◌, ◌≤◌, List, [], ◌∷◌, length, take, true, cond, arith, ap, sym, ◌∙◌, subst, Option, Some, None, refl, inl, inr}
use Rattle.std.specs.Prelude.{slice_get, ◌==◌, nat_lt, option_and_then}
use Rattle.std.proofs.lemmas.Bool.{and_parts, and_from, eq-eqb, ne_eqb, eqb-true, lt-ltb, le-ltb, cases_eq, cases_lt, cond-true, cond-false}
use Rattle.std.proofs.lemmas.List.{length-append, length-take-le}
use Rattle.std.proofs.lemmas.Option.{slice_get_past, cond_some, option_and_then_some}
use Rattle.hd_dbd.specs.Types.{SegmentType}
use Rattle.hd_dbd.specs.Segment.{Segment}
use Rattle.hd_dbd.specs.Rows.{valid_from, may_follow, next_path}
use Rattle.hd_dbd.specs.Paths.{row_at, level_at, nearest_above}
use Rattle.hd_dbd.proofs.Twins.{path_kept, path_ends}

-- ---- the walk

-- the path after so many rows, where it was the given one before them
abbrev pub walked : List SegmentType → List Segment → List Segment → ℕ → List Segment
walked types path rows zero = path
walked types path rows (suc n) = next_path types (walked types path rows n) (row_at rows n)

-- the walk over a row and so many more is that over the more from the row's path
walked_on : (types : List SegmentType) (path : List Segment) (r : Segment) (rows : List Segment) (n : ℕ)
    → walked types path (r ∷ rows) (suc n) ≡ walked types (next_path types path r) rows n
walked_on types path r rows zero = refl
walked_on types path r rows (suc n) = ap (λ (p : List Segment). next_path types p (row_at rows n)) (walked_on types path r rows n)

-- in valid rows each may follow the path of those before it
pub valid_each : (types : List SegmentType) (path rows : List Segment) → valid_from types path rows ≡ true
    → (n : ℕ) → n < length rows → may_follow types (walked types path rows n) (row_at rows n) ≡ true
valid_each types path [] valid n within = absurd (omega arith)
valid_each types path (r ∷ rows) valid zero within = (and_parts _ _ valid).0
valid_each types path (r ∷ rows) valid (suc n) within =
    ap (λ (p : List Segment). may_follow types p (row_at rows n)) (walked_on types path r rows n)
    ∙ valid_each types (next_path types path r) rows (and_parts _ _ valid).1 n (omega arith)

-- rows of which each may follow the path of those before it are valid
pub each_valid : (types : List SegmentType) (path rows : List Segment)
    → ((n : ℕ) → n < length rows → may_follow types (walked types path rows n) (row_at rows n) ≡ true) → valid_from types path rows ≡ true
each_valid types path [] each = refl
each_valid types path (r ∷ rows) each =
    and_from _ _ (each 0 (omega arith)) (each_valid types (next_path types path r) rows
    (λ n within. ap (λ (p : List Segment). may_follow types p (row_at rows n)) (sym (walked_on types path r rows n)) ∙ each (suc n) (omega arith)))

-- ---- the path's rows

-- Each of so many rows has a level that is not 0, and at most one below the end of the path of those before it.
pub record IsStepwise (types : List SegmentType) (rows : List Segment) (n : ℕ) : Type 0 where
  pub some : (k : ℕ) → k < n → 0 < level_at types rows k
  pub reach : (k : ℕ) → k < n → level_at types rows k ≤ length (walked types [] rows k) + 1

-- fewer rows keep such levels
pub fewer : (types : List SegmentType) (rows : List Segment) (n m : ℕ) → m ≤ n → IsStepwise types rows n → IsStepwise types rows m
fewer types rows n m less steps = record {
  some = λ k below. steps.some k (omega arith);
  reach = λ k below. steps.reach k (omega arith);
}

-- one more row with such a level
pub more : (types : List SegmentType) (rows : List Segment) (n : ℕ) → IsStepwise types rows n → 0 < level_at types rows n
    → level_at types rows n ≤ length (walked types [] rows n) + 1 → IsStepwise types rows (suc n)
more types rows n steps some reach = record {
  some = λ k below. elim (cases_lt k n) [
    | inl before ↦ steps.some k before
    | inr last ↦ (let same : n ≡ k = omega arith in subst (λ (m : ℕ). 0 < level_at types rows m) same some)
  ];
  reach = λ k below. elim (cases_lt k n) [
    | inl before ↦ steps.reach k before
    | inr last ↦ (let same : n ≡ k = omega arith in subst (λ (m : ℕ). level_at types rows m ≤ length (walked types [] rows m) + 1) same reach)
  ];
}

-- the row of a number, if it is of a level
abbrev on_level : List SegmentType → List Segment → ℕ → ℕ → Option Segment
on_level types rows l k = cond (level_at types rows k == l) (Some (row_at rows k)) None

-- On the path stands, for each level, the last row of this level or above it, if it is of this level.
on_path : (types : List SegmentType) (rows : List Segment) (n d : ℕ) → IsStepwise types rows n
    → slice_get (walked types [] rows n) d ≡ option_and_then (λ k. on_level types rows (d + 1) k) (nearest_above types rows (d + 2) n)
on_path types rows zero d steps = refl
on_path types rows (suc n) d steps =
    let some : 0 < level_at types rows n = steps.some n (omega arith) in
    let reach : level_at types rows n ≤ length (walked types [] rows n) + 1 = steps.reach n (omega arith) in
    elim (cases_lt (level_at types rows n) (d + 2)) [
      | inl low ↦ at_end (lt-ltb (level_at types rows n) (d + 2) low) some reach low
      | inr deep ↦ path_kept (walked types [] rows n) (level_at types rows n - 1) d (row_at rows n ∷ []) (omega arith) (omega arith)
          ∙ on_path types rows n d (fewer types rows (suc n) n (omega arith) steps)
          ∙ ap (λ (o : Option ℕ). option_and_then (λ k. on_level types rows (d + 1) k) o)
          (sym (cond-false (nat_lt (level_at types rows n) (d + 2)) (Some n) (nearest_above types rows (d + 2) n) (le-ltb (level_at types rows n) (d + 2) deep)))
    ]
  where
    at_end : nat_lt (level_at types rows n) (d + 2) ≡ true → 0 < level_at types rows n → level_at types rows n ≤ length (walked types [] rows n) + 1
        → level_at types rows n < d + 2
        → slice_get (walked types [] rows (suc n)) d ≡ option_and_then (λ k. on_level types rows (d + 1) k) (nearest_above types rows (d + 2) (suc n))
    at_end test some reach low =
        elim (cases_eq (level_at types rows n) (d + 1)) [
          | inl same ↦ ap (λ (i : ℕ). slice_get (walked types [] rows (suc n)) i) (omega arith)
              ∙ path_ends (walked types [] rows n) (level_at types rows n - 1) (row_at rows n) (omega arith)
              ∙ sym (cond-true (level_at types rows n == d + 1) (Some (row_at rows n)) None (eq-eqb (level_at types rows n) (d + 1) same))
              ∙ nearest
          | inr other ↦ (let front : length (take (level_at types rows n - 1) (walked types [] rows n)) ≡ level_at types rows n - 1 =
              length-take-le (level_at types rows n - 1) (walked types [] rows n) (omega arith) in
              slice_get_past (walked types [] rows (suc n)) d
              (omega (arith, length-append (take (level_at types rows n - 1) (walked types [] rows n)) (row_at rows n ∷ [])))
              ∙ sym (cond-false (level_at types rows n == d + 1) (Some (row_at rows n)) None (ne_eqb (level_at types rows n) (d + 1) other))
              ∙ nearest)
        ]
      where
        nearest : on_level types rows (d + 1) n ≡ option_and_then (λ k. on_level types rows (d + 1) k) (nearest_above types rows (d + 2) (suc n))
        nearest = ap (λ (o : Option ℕ). option_and_then (λ k. on_level types rows (d + 1) k) o)
            (sym (cond-true (nat_lt (level_at types rows n) (d + 2)) (Some n) (nearest_above types rows (d + 2) n) test))

-- the last row of a level or above it, where it is of this level, stands on the path
pub nearest_on : (types : List SegmentType) (rows : List Segment) (n d k : ℕ) → IsStepwise types rows n → nearest_above types rows (d + 2) n ≡ Some k
    → level_at types rows k ≡ d + 1 → slice_get (walked types [] rows n) d ≡ Some (row_at rows k)
nearest_on types rows n d k steps is at =
    on_path types rows n d steps ∙ ap (λ (o : Option ℕ). option_and_then (λ k. on_level types rows (d + 1) k) o) is
    ∙ cond-true (level_at types rows k == d + 1) (Some (row_at rows k)) None (eq-eqb (level_at types rows k) (d + 1) at)

-- what stands on the path is the last row of its level or above it
pub on_nearest : (types : List SegmentType) (rows : List Segment) (n d : ℕ) (q : Segment) → IsStepwise types rows n → slice_get (walked types [] rows n) d ≡ Some q
    → (k : ℕ) × (nearest_above types rows (d + 2) n ≡ Some k) × (level_at types rows k ≡ d + 1) × (row_at rows k ≡ q)
on_nearest types rows n d q steps on =
    option_and_then_some (λ k. on_level types rows (d + 1) k) (nearest_above types rows (d + 2) n) q (sym (on_path types rows n d steps) ∙ on)
    (λ k is here. (let both = cond_some (level_at types rows k == d + 1) (row_at rows k) q here in
    (k, is, eqb-true (level_at types rows k) (d + 1) both.0, both.1)))
