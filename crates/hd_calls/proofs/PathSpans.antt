-- The rows on whose path a row stands are those of its span.
use Rattle.std.proofs.Common.{◌≡◌, ℕ, zero, suc, ◌<◌, ◌≤◌, List, [], ◌∷◌, ◌++◌, length, true, false, Bool, cond, arith, sym, ◌∙◌, subst, refl, inl, inr, ◌⊎◌}
use Rattle.std.specs.Prelude.{◌==◌, ◌&&◌, ◌||◌, nat_lt, nat_le}
use Rattle.std.specs.List.{list_any}
use Rattle.std.proofs.lemmas.Bool.{cases_lt, ltb-true, ltb-false, eqb-true, eq-eqb, lt-ltb, le-leb, leb-true, or_cases, or_left, or_right, and_from, and_parts}
use Rattle.hd_dbd.specs.Types.{SegmentType}
use Rattle.hd_dbd.specs.Segment.{Segment}
use Rattle.hd_dbd.specs.Paths.{level_at, path_above, path_of, end_of}
use Rattle.hd_calls.specs.Laws.{SpansAreTheRowsBelow}
use Rattle.hd_calls.proofs.Spans.{IsEnd, end_is}

-- the number stands in a list
abbrev has : ℕ → List ℕ → Bool
has i xs = list_any (λ j. j == i) xs

has_append : (i : ℕ) (xs ys : List ℕ) → has i (xs ++ ys) ≡ (has i xs || has i ys)
has_append i [] ys = refl
has_append i (x ∷ xs) ys = by_first (x == i) (has_append i xs ys)
  where
    by_first : (b : Bool) → has i (xs ++ ys) ≡ (has i xs || has i ys) → (b || has i (xs ++ ys)) ≡ ((b || has i xs) || has i ys)
    by_first true rest = refl
    by_first false rest = rest

-- Row i is above number n for a level: it is higher than the level, and the rows between are deeper than it.
pub record IsOver (types : List SegmentType) (rows : List Segment) (l n i : ℕ) : Type 0 where
  pub before : i < n
  pub higher : level_at types rows i < l
  pub deeper : (k : ℕ) → i < k → k < n → level_at types rows i < level_at types rows k

-- the path above a number has the rows that are above it
on_path_over : (types : List SegmentType) (rows : List Segment) (l n i : ℕ) → has i (path_above types rows l n) ≡ true → IsOver types rows l n i
on_path_over types rows l zero i is = cc
on_path_over types rows l (suc n) i is = by_level (nat_lt (level_at types rows n) l) refl is (λ own. on_path_over types rows (level_at types rows n) n i own) (λ other. on_path_over types rows l n i other)
  where
    by_level : (b : Bool) → nat_lt (level_at types rows n) l ≡ b → has i (cond b (path_above types rows (level_at types rows n) n ++ n ∷ []) (path_above types rows l n)) ≡ true
        → (has i (path_above types rows (level_at types rows n) n) ≡ true → IsOver types rows (level_at types rows n) n i)
        → (has i (path_above types rows l n) ≡ true → IsOver types rows l n i)
        → IsOver types rows l (suc n) i
    by_level true high is own other =
        let low : level_at types rows n < l = ltb-true (level_at types rows n) l high in
        elim (or_cases (has i (path_above types rows (level_at types rows n) n)) (has i (n ∷ [])) (sym (has_append i (path_above types rows (level_at types rows n) n) (n ∷ [])) ∙ is)) [
          | inl on ↦ (let over : IsOver types rows (level_at types rows n) n i = own on in
              let higher : level_at types rows i < level_at types rows n = over.higher in
              record {
                before = omega (arith, over.before);
                higher = omega arith;
                deeper = λ k after_ below. elim (cases_lt k n) [
                  | inl less ↦ over.deeper k after_ less
                  | inr last ↦ (let same : n ≡ k = omega arith in subst (λ (k : ℕ). level_at types rows i < level_at types rows k) same higher)
                ];
              })
          | inr here ↦ elim (or_cases (n == i) false here) [
            | inl same ↦ (let at : n ≡ i = eqb-true n i same in
                record {
                  before = omega (arith, at);
                  higher = subst (λ (k : ℕ). level_at types rows k < l) at low;
                  deeper = λ k after_ below. absurd (omega (arith, at));
                })
            | inr none ↦ cc
          ]
        ]
    by_level false low is own other =
        let over : IsOver types rows l n i = other is in
        let not_lower : l ≤ level_at types rows n = ltb-false (level_at types rows n) l low in
        let higher : level_at types rows i < l = over.higher in
        record {
          before = omega (arith, over.before);
          higher = higher;
          deeper = λ k after_ below. elim (cases_lt k n) [
            | inl less ↦ over.deeper k after_ less
            | inr last ↦ (let same : n ≡ k = omega arith in
                let deep : level_at types rows i < level_at types rows n = omega arith in
                subst (λ (k : ℕ). level_at types rows i < level_at types rows k) same deep)
          ];
        }

over_on_path : (types : List SegmentType) (rows : List Segment) (l n i : ℕ) → IsOver types rows l n i → has i (path_above types rows l n) ≡ true
over_on_path types rows l zero i over = absurd (omega (arith, over.before))
over_on_path types rows l (suc n) i over = by_level (nat_lt (level_at types rows n) l) refl (λ own. over_on_path types rows (level_at types rows n) n i own) (λ other. over_on_path types rows l n i other)
  where
    fewer : (m : ℕ) → i < n → level_at types rows i < m → IsOver types rows m n i
    fewer m less high = record { before = less; higher = high; deeper = λ k after_ below. over.deeper k after_ (omega arith) }

    by_level : (b : Bool) → nat_lt (level_at types rows n) l ≡ b
        → (IsOver types rows (level_at types rows n) n i → has i (path_above types rows (level_at types rows n) n) ≡ true)
        → (IsOver types rows l n i → has i (path_above types rows l n) ≡ true)
        → has i (cond b (path_above types rows (level_at types rows n) n ++ n ∷ []) (path_above types rows l n)) ≡ true
    by_level true high own other = elim (cases_lt i n) [
      | inl less ↦ has_append i (path_above types rows (level_at types rows n) n) (n ∷ [])
          ∙ or_left (has i (path_above types rows (level_at types rows n) n)) (has i (n ∷ [])) (own (fewer (level_at types rows n) less (over.deeper n less (omega arith))))
      | inr last ↦ (let same : n ≡ i = omega (arith, over.before) in
          has_append i (path_above types rows (level_at types rows n) n) (n ∷ [])
          ∙ or_right (has i (path_above types rows (level_at types rows n) n)) (has i (n ∷ [])) (or_left (n == i) false (eq-eqb n i same)))
    ]
    by_level false low own other = elim (cases_lt i n) [
      | inl less ↦ other (fewer l less over.higher)
      | inr last ↦ (let same : i ≡ n = omega (arith, over.before) in
          let high : level_at types rows n < l = subst (λ (k : ℕ). level_at types rows k < l) same over.higher in
          let not_lower : l ≤ level_at types rows n = ltb-false (level_at types rows n) l low in
          absurd (omega arith))
    ]

-- a row is in a span where it is on the path
in_span : (types : List SegmentType) (rows : List Segment) (i k : ℕ) → k < length rows → has i (path_of types rows k) ≡ true → (nat_le i k && nat_lt k (end_of types rows i)) ≡ true
in_span types rows i k within is =
    elim (or_cases (has i (path_above types rows (level_at types rows k) k)) (has i (k ∷ [])) (sym (has_append i (path_above types rows (level_at types rows k) k) (k ∷ [])) ∙ is)) [
      | inl on ↦ (let over : IsOver types rows (level_at types rows k) k i = on_path_over types rows (level_at types rows k) k i on in
          let span : IsEnd types rows i (end_of types rows i) = end_is types rows i (omega (arith, over.before)) in
          and_from (nat_le i k) _ (le-leb i k (omega (arith, over.before))) (lt-ltb k (end_of types rows i) (behind over span)))
      | inr here ↦ elim (or_cases (k == i) false here) [
        | inl same ↦ (let at : k ≡ i = eqb-true k i same in
            let span : IsEnd types rows i (end_of types rows i) = end_is types rows i (omega (arith, at)) in
            and_from (nat_le i k) _ (le-leb i k (omega (arith, at))) (lt-ltb k (end_of types rows i) (omega (arith, at, span.behind))))
        | inr none ↦ cc
      ]
    ]
  where
    behind : IsOver types rows (level_at types rows k) k i → IsEnd types rows i (end_of types rows i) → k < end_of types rows i
    behind over span = elim (cases_lt k (end_of types rows i)) [
      | inl less ↦ less
      | inr past ↦ by_next span.next
    ]
      where
        by_next : (end_of types rows i ≡ length rows) ⊎ (level_at types rows (end_of types rows i) ≤ level_at types rows i) → k < end_of types rows i
        by_next (inl all) = omega (arith, all)
        by_next (inr low) = elim (cases_lt k (end_of types rows i)) [
          | inl less ↦ less
          | inr past ↦ elim (cases_lt (end_of types rows i) k) [
            | inl before ↦ (let deep : level_at types rows i < level_at types rows (end_of types rows i) = over.deeper (end_of types rows i) (omega (arith, span.behind)) before in absurd (omega (arith, low, deep)))
            | inr here ↦ (let same : end_of types rows i ≡ k = omega arith in
                let flat : level_at types rows k ≤ level_at types rows i = subst (λ (j : ℕ). level_at types rows j ≤ level_at types rows i) same low in
                absurd (omega (arith, flat, over.higher)))
          ]
        ]

-- and on the path where it is in the span
span_on : (types : List SegmentType) (rows : List Segment) (i k : ℕ) → k < length rows → (nat_le i k && nat_lt k (end_of types rows i)) ≡ true → has i (path_of types rows k) ≡ true
span_on types rows i k within is =
    let both = and_parts (nat_le i k) (nat_lt k (end_of types rows i)) is in
    let from : i ≤ k = leb-true i k both.0 in
    let to : k < end_of types rows i = ltb-true k (end_of types rows i) both.1 in
    let span : IsEnd types rows i (end_of types rows i) = end_is types rows i (omega arith) in
    has_append i (path_above types rows (level_at types rows k) k) (k ∷ [])
    ∙ elim (cases_lt i k) [
      | inl less ↦ or_left (has i (path_above types rows (level_at types rows k) k)) (has i (k ∷ []))
          (over_on_path types rows (level_at types rows k) k i (record {
            before = less;
            higher = span.deeper k (omega arith) to;
            deeper = λ m after_ below. span.deeper m (omega arith) (omega arith);
          }))
      | inr here ↦ (let same : k ≡ i = omega arith in
          or_right (has i (path_above types rows (level_at types rows k) k)) (has i (k ∷ [])) (or_left (k == i) false (eq-eqb k i same)))
    ]

same_tests : (a b : Bool) → (a ≡ true → b ≡ true) → (b ≡ true → a ≡ true) → a ≡ b
same_tests true b f g = sym (f refl)
same_tests false true f g = g refl
same_tests false false f g = refl

pub spans_below : SpansAreTheRowsBelow
spans_below types rows i k within =
    same_tests (has i (path_of types rows k)) (nat_le i k && nat_lt k (end_of types rows i)) (in_span types rows i k within) (span_on types rows i k within)
