-- Numbers that stand twice in a list: in order of the numbers they stand side by side.
use Rattle.std.proofs.Common.{◌≡◌, ◌≢◌, inl, inr, ℕ, zero, suc, ◌+◌, ◌-◌, ◌<◌, ◌≤◌, List, [], ◌∷◌, length, Bool, cond, slice_index, refl, sym, ap, ◌∙◌, arith, ne_eqb}
use Rattle.std.specs.Prelude.{◌==◌}
use Rattle.std.specs.List.{sum_by}
use Rattle.std.specs.List.Sorted.{IsPermutation, IsNonDecreasing}
use Rattle.std.proofs.lemmas.Bool.{cases_lt, cases_eq, eq-eqb}
use Rattle.std.proofs.lemmas.List.Sums.{sum_by-cons}
use Rattle.std.proofs.lemmas.List.Sorted.{sum_by-IsPermutation}
use Rattle.hd_check_index.specs.Marks.{IsTwice}

-- ---- how often a number stands in a list

-- 1 for the number, else 0
abbrev one-for : ℕ → ℕ → ℕ
one-for n x = cond (x == n) 1 0

-- how often it stands there
abbrev count : ℕ → List ℕ → ℕ
count n [] = 0
count n (x ∷ xs) = one-for n x + count n xs

count-is : (n : ℕ) (xs : List ℕ) → sum_by (one-for n) xs ≡ count n xs
count-is n [] = refl
count-is n (x ∷ xs) = sum_by-cons (one-for n) x xs ∙ ap (λ (s : ℕ). one-for n x + s) (count-is n xs)

-- a number that stands at an index is counted
once-counted : (n : ℕ) (xs : List ℕ) (i : ℕ) → i < length xs → slice_index xs i ≡ n → 1 ≤ count n xs
once-counted n [] i l e = absurd (omega arith)
once-counted n (x ∷ xs) zero l e = (let o : one-for n x ≡ 1 = ap (λ (t : Bool). cond t 1 0) (eq-eqb x n e) in omega arith)
once-counted n (x ∷ xs) (suc i) l e = (let r = once-counted n xs i (omega arith) e in omega arith)

-- one that stands at two is counted twice
twice-counted : (n : ℕ) (xs : List ℕ) → IsTwice n xs → 2 ≤ count n xs
twice-counted n [] (i, j, less, l, a, b) = absurd (omega arith)
twice-counted n (x ∷ xs) (i, zero, less, l, a, b) = absurd (omega arith)
twice-counted n (x ∷ xs) (zero, suc j, less, l, a, b) =
    (let o : one-for n x ≡ 1 = ap (λ (t : Bool). cond t 1 0) (eq-eqb x n a) in let r = once-counted n xs j (omega arith) b in omega arith)
twice-counted n (x ∷ xs) (suc i, suc j, less, l, a, b) = (let r = twice-counted n xs (i, j, omega arith, omega arith, a, b) in omega arith)

-- what is counted stands at an index
counted-once : (n : ℕ) (xs : List ℕ) → 1 ≤ count n xs → (i : ℕ) × (i < length xs) × (slice_index xs i ≡ n)
counted-once n [] h = absurd (omega arith)
counted-once n (x ∷ xs) h = elim (cases_eq x n) [
  | inl e ↦ (0, omega arith, e)
  | inr ne ↦
      (let o : one-for n x ≡ 0 = ap (λ (t : Bool). cond t 1 0) (ne_eqb x n ne) in
      let r = counted-once n xs (omega arith) in
      let l = r.1 in
      (suc r.0, omega arith, r.2))
]

-- what is counted twice stands at two
counted-twice : (n : ℕ) (xs : List ℕ) → 2 ≤ count n xs → IsTwice n xs
counted-twice n [] h = absurd (omega arith)
counted-twice n (x ∷ xs) h = elim (cases_eq x n) [
  | inl e ↦
      (let o : one-for n x ≡ 1 = ap (λ (t : Bool). cond t 1 0) (eq-eqb x n e) in
      let r = counted-once n xs (omega arith) in
      let l = r.1 in
      (0, suc r.0, omega arith, omega arith, e, r.2))
  | inr ne ↦
      (let o : one-for n x ≡ 0 = ap (λ (t : Bool). cond t 1 0) (ne_eqb x n ne) in
      let r = counted-twice n xs (omega arith) in
      let less = r.2 in
      let l = r.3 in
      (suc r.0, suc r.1, omega arith, omega arith, r.4, r.5))
]

-- another order has the same numbers twice
pub twice-moved : (n : ℕ) (xs ys : List ℕ) → IsPermutation xs ys → IsTwice n xs → IsTwice n ys
twice-moved n xs ys p h =
    let same : count n ys ≡ count n xs = sym (count-is n ys) ∙ sum_by-IsPermutation (one-for n) xs ys p ∙ count-is n xs in
    let two = twice-counted n xs h in
    counted-twice n ys (omega arith)

-- ---- numbers in order

-- where numbers ascend one that stands twice stands twice side by side
beside : (n : ℕ) (xs : List ℕ) (h : IsTwice n xs) → IsNonDecreasing xs → slice_index xs h.0 ≡ slice_index xs (h.0 + 1)
beside n xs (i, j, less, l, a, b) up =
    let low = up i (i + 1) 0 (omega arith) (omega arith) in
    let high = up (i + 1) j 0 (omega arith) l in
    omega arith

-- where none but 0 stands twice side by side none does
pub none-twice : (xs : List ℕ) → IsNonDecreasing xs → ((j : ℕ) → j + 1 < length xs → slice_index xs j ≡ slice_index xs (j + 1) → slice_index xs j ≡ 0) → (n : ℕ) → 0 < n → IsTwice n xs → ⊥
none-twice xs up none n some h =
    let e = beside n xs h up in
    let less = h.2 in
    let within = h.3 in
    let z = none h.0 (omega arith) e in
    let a = h.4 in
    omega arith

-- the first number that stands twice side by side is the least that stands twice
pub least-twice : (xs : List ℕ) (i : ℕ) → IsNonDecreasing xs → 1 ≤ i → i < length xs → slice_index xs i ≡ slice_index xs (i - 1) → ((j : ℕ) → j + 1 < i → slice_index xs j ≡ slice_index xs (j + 1) → slice_index xs j ≡ 0)
    → (m : ℕ) → 0 < m → m < slice_index xs i → IsTwice m xs → ⊥
least-twice xs i up some within same none m positive less h =
    let e = beside m xs h up in
    let order = h.2 in
    let in-xs = h.3 in
    let a = h.4 in
    elim (cases_lt (h.0 + 1) i) [
      | inl low ↦ (let z = none h.0 low e in omega arith)
      | inr high ↦ (let o = up (i - 1) h.0 0 (omega arith) (omega arith) in omega arith)
    ]

-- a number whose neighbours differ from it does not stand twice
pub once-here : (n : ℕ) (xs : List ℕ) (i : ℕ) → IsNonDecreasing xs → i < length xs → slice_index xs i ≡ n → (0 < i → slice_index xs (i - 1) ≢ n) → (i + 1 < length xs → slice_index xs (i + 1) ≢ n) → IsTwice n xs → ⊥
once-here n xs i up within here before behind (j, k, less, l, a, b) = elim (cases_lt i k) [
  | inl low ↦ (let one = up i (i + 1) 0 (omega arith) (omega arith) in let two = up (i + 1) k 0 (omega arith) l in behind (omega arith) (omega arith))
  | inr high ↦ (let one = up j (i - 1) 0 (omega arith) (omega arith) in let two = up (i - 1) i 0 (omega arith) within in before (omega arith) (omega arith))
]

-- one that stands twice side by side does
pub twice-side : (n : ℕ) (xs : List ℕ) (i : ℕ) → i + 1 < length xs → slice_index xs i ≡ n → slice_index xs (i + 1) ≡ n → IsTwice n xs
twice-side n xs i l a b = (i, i + 1, omega arith, l, a, b)
