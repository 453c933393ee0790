-- Rows that go in one behind the other, as together.
use Rattle.std.proofs.Common.{◌≡◌, ℕ, ◌+◌, List, [], ◌∷◌, ap, ap₂, sym, ◌∙◌, refl, arith, inl, inr, Option, Some, None}
use Rattle.std.specs.Prelude.{map, option_map, nat_lt}
use Rattle.std.proofs.lemmas.Bool.{cases_lt, cond-true, cond-false, lt-ltb, le-ltb}
use Rattle.hd_dbd.specs.Positions.{Position}
use Rattle.hd_calls.specs.Moves.{number_after_insert, passed_after_insert}
use Rattle.hd_position.specs.Laws.{InsertionsAddUp}
use Rattle.hd_position.proofs.Splices.{rises, stays}

number_up : (n k x : ℕ) → number_after_insert (n + k) 1 (number_after_insert n k x) ≡ number_after_insert n (k + 1) x
number_up n k x = elim (cases_lt x n) [
  | inl low ↦ ap (number_after_insert (n + k) 1) (stays n k x low) ∙ stays (n + k) 1 x (omega arith) ∙ sym (stays n (k + 1) x low)
  | inr high ↦ ap (number_after_insert (n + k) 1) (rises n k x high) ∙ rises (n + k) 1 (x + k) (omega arith) ∙ (let e : x + k + 1 ≡ x + (k + 1) = omega arith in e) ∙ sym (rises n (k + 1) x high)
]

passed_up : (n k x : ℕ) → passed_after_insert (n + k) 1 (passed_after_insert n k x) ≡ passed_after_insert n (k + 1) x
passed_up n k x = elim (cases_lt n x) [
  | inl high ↦ ap (passed_after_insert (n + k) 1) (cond-true (nat_lt n x) (x + k) x (lt-ltb n x high))
      ∙ cond-true (nat_lt (n + k) (x + k)) (x + k + 1) (x + k) (lt-ltb (n + k) (x + k) (omega arith)) ∙ (let e : x + k + 1 ≡ x + (k + 1) = omega arith in e)
      ∙ sym (cond-true (nat_lt n x) (x + (k + 1)) x (lt-ltb n x high))
  | inr low ↦ ap (passed_after_insert (n + k) 1) (cond-false (nat_lt n x) (x + k) x (le-ltb n x low))
      ∙ cond-false (nat_lt (n + k) x) (x + 1) x (le-ltb (n + k) x (omega arith))
      ∙ sym (cond-false (nat_lt n x) (x + (k + 1)) x (le-ltb n x low))
]

row_up : (n k : ℕ) (o : Option ℕ) → option_map (λ x. number_after_insert (n + k) 1 x) (option_map (λ x. number_after_insert n k x) o) ≡ option_map (λ x. number_after_insert n (k + 1) x) o
row_up n k None = refl
row_up n k (Some x) = ap (λ (y : ℕ). Some y) (number_up n k x)

rows_up : (n k : ℕ) (xs : List ℕ) → map (λ x. number_after_insert (n + k) 1 x) (map (λ x. number_after_insert n k x) xs) ≡ map (λ x. number_after_insert n (k + 1) x) xs
rows_up n k [] = refl
rows_up n k (x ∷ xs) = ap₂ (λ (y : ℕ) (ys : List ℕ). y ∷ ys) (number_up n k x) (rows_up n k xs)

-- a position with these rows
abbrev with_rows : ℕ → Position → Option ℕ → Option ℕ → List ℕ → Position
with_rows n q standing parent held = record { passed = n; standing = standing; last = q.last; parent = parent; held = held }

same_rows : (q : Position) (n m : ℕ) (s t p o : Option ℕ) (h g : List ℕ) → n ≡ m → s ≡ t → p ≡ o → h ≡ g → with_rows n q s p h ≡ with_rows m q t o g
same_rows q n m s t p o h g a b c d = ap (λ x. with_rows x q s p h) a ∙ ap (λ x. with_rows m q x p h) b ∙ ap (λ x. with_rows m q t x h) c ∙ ap (λ x. with_rows m q t o x) d

pub insertions_add : InsertionsAddUp
insertions_add n k q = same_rows q _ _ _ _ _ _ _ _ (passed_up n k q.passed) (row_up n k q.standing) (row_up n k q.parent) (rows_up n k q.held)
