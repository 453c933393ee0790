-- Searches for the least number that passes, over fewer numbers.
use Rattle.std.proofs.Common.{◌≡◌, ℕ, zero, suc, ◌+◌, ◌-◌, ◌<◌, ◌≤◌, true, false, Bool, cond, arith, ap, sym, ◌∙◌, subst, Option, Some, None, refl, inl, inr}
use Rattle.std.specs.Prelude.{is_some}
use Rattle.std.proofs.lemmas.Bool.{cases_lt, cases_Bool, cond-true, cond-false}
use Rattle.hd_dbd.specs.Searches.{least_within, first_from}

-- where none passes, none is found
pub least_none : (test : ℕ → Bool) (n i : ℕ) → ((j : ℕ) → i ≤ j → j < i + n → test j ≡ false) → least_within test n i ≡ None
least_none test zero i none = refl
least_none test (suc n) i none =
    cond-false (test i) (Some i) (least_within test n (i + 1)) (none i (omega arith) (omega arith))
    ∙ least_none test n (i + 1) (λ j low high. none j (omega arith) (omega arith))

-- where one passes, one is found
pub least_passed : (test : ℕ → Bool) (n i j : ℕ) → i ≤ j → j < i + n → test j ≡ true → is_some (least_within test n i) ≡ true
least_passed test zero i j low high passes = absurd (omega arith)
least_passed test (suc n) i j low high passes = elim (cases_Bool (test i)) [
  | inl here ↦ ap is_some (cond-true (test i) (Some i) (least_within test n (i + 1)) here)
  | inr none ↦ elim (cases_lt i j) [
    | inl behind ↦ ap is_some (cond-false (test i) (Some i) (least_within test n (i + 1)) none) ∙ least_passed test n (i + 1) j (omega arith) (omega arith) passes
    | inr at ↦ (let same : i ≡ j = omega arith in let yes_ : test i ≡ true = ap test same ∙ passes in cc)
  ]
]

-- what is found is the first that passes
pub least_some : (test : ℕ → Bool) (n i k : ℕ) → least_within test n i ≡ Some k → (i ≤ k) × (k < i + n) × (test k ≡ true) × ((j : ℕ) → i ≤ j → j < k → test j ≡ false)
least_some test zero i k is = cc
least_some test (suc n) i k is = elim (cases_Bool (test i)) [
  | inl here ↦ (let same : Some i ≡ Some k = sym (cond-true (test i) (Some i) (least_within test n (i + 1)) here) ∙ is in
      let at : i ≡ k = cc in
      (omega arith, omega arith, subst (λ (j : ℕ). test j ≡ true) at here, λ j low high. absurd (omega arith)))
  | inr none ↦ (let rest = least_some test n (i + 1) k (sym (cond-false (test i) (Some i) (least_within test n (i + 1)) none) ∙ is) in (
    omega (arith, rest.0),
    omega (arith, rest.1),
    rest.2,
    λ j low high. elim (cases_lt i j) [
      | inl behind ↦ rest.3 j (omega arith) high
      | inr at ↦ (let same : j ≡ i = omega arith in ap test same ∙ none)
    ],
  ))
]

-- where none is found, none passes
pub least_no : (test : ℕ → Bool) (n i : ℕ) → least_within test n i ≡ None → (j : ℕ) → i ≤ j → j < i + n → test j ≡ false
least_no test zero i is j low high = absurd (omega arith)
least_no test (suc n) i is j low high = elim (cases_Bool (test i)) [
  | inl here ↦ (let wrong : Some i ≡ None = sym (cond-true (test i) (Some i) (least_within test n (i + 1)) here) ∙ is in cc)
  | inr none ↦ elim (cases_lt i j) [
    | inl behind ↦ least_no test n (i + 1) (sym (cond-false (test i) (Some i) (least_within test n (i + 1)) none) ∙ is) j (omega arith) (omega arith)
    | inr at ↦ (let same : j ≡ i = omega arith in ap test same ∙ none)
  ]
]

-- numbers in front that do not pass may be left out
pub skip_front : (test : ℕ → Bool) (d n i : ℕ) → ((j : ℕ) → i ≤ j → j < i + d → test j ≡ false) → least_within test (n + d) i ≡ least_within test n (i + d)
skip_front test zero n i none =
    let count : n + 0 ≡ n = omega arith in
    let place : i ≡ i + 0 = omega arith in
    ap (λ (m : ℕ). least_within test m i) count ∙ ap (λ (k : ℕ). least_within test n k) place
skip_front test (suc d) n i none =
    let count : n + suc d ≡ suc (n + d) = omega arith in
    let place : i + 1 + d ≡ i + suc d = omega arith in
    ap (λ (m : ℕ). least_within test m i) count
    ∙ cond-false (test i) (Some i) (least_within test (n + d) (i + 1)) (none i (omega arith) (omega arith))
    ∙ skip_front test d n (i + 1) (λ j low high. none j (omega arith) (omega arith))
    ∙ ap (λ (k : ℕ). least_within test n k) place

-- and so may numbers at the end
pub cut_end : (test : ℕ → Bool) (d n i : ℕ) → ((j : ℕ) → i + n ≤ j → j < i + n + d → test j ≡ false) → least_within test (n + d) i ≡ least_within test n i
cut_end test d zero i none = least_none test (0 + d) i (λ j low high. none j (omega arith) (omega arith))
cut_end test d (suc n) i none =
    let count : suc n + d ≡ suc (n + d) = omega arith in
    ap (λ (m : ℕ). least_within test m i) count
    ∙ ap (λ (o : Option ℕ). cond (test i) (Some i) o) (cut_end test d n (i + 1) (λ j low high. none j (omega arith) (omega arith)))

-- a search over a part outside of which none passes
pub narrowed : (test : ℕ → Bool) (a b n : ℕ) → a ≤ b → b ≤ n → ((j : ℕ) → j < a → test j ≡ false) → ((j : ℕ) → b ≤ j → j < n → test j ≡ false) → first_from test 0 n ≡ first_from test a b
narrowed test a b n low high front back =
    let whole : n - 0 ≡ ((b - a) + (n - b)) + a = omega arith in
    let place : 0 + a ≡ a = omega arith in
    ap (λ (m : ℕ). least_within test m 0) whole
    ∙ skip_front test a ((b - a) + (n - b)) 0 (λ j _ less. front j (omega arith))
    ∙ ap (λ (k : ℕ). least_within test ((b - a) + (n - b)) k) place
    ∙ cut_end test (n - b) (b - a) a (λ j from to. back j (omega arith) (omega arith))

-- a search goes on at a number before which none passes
pub skipped : (test : ℕ → Bool) (a e n : ℕ) → a ≤ e → ((j : ℕ) → a ≤ j → j < e → test j ≡ false) → first_from test a n ≡ first_from test e n
skipped test a e n low none = elim (cases_lt n e) [
  | inl short ↦ (let over : n - e ≡ 0 = omega arith in
      least_none test (n - a) a (λ j from to. none j from (omega arith)) ∙ sym (ap (λ (m : ℕ). least_within test m e) over))
  | inr long ↦ (let whole : n - a ≡ (n - e) + (e - a) = omega arith in
      let place : a + (e - a) ≡ e = omega arith in
      ap (λ (m : ℕ). least_within test m a) whole
      ∙ skip_front test (e - a) (n - e) a (λ j from to. none j from (omega arith))
      ∙ ap (λ (k : ℕ). least_within test (n - e) k) place)
]
