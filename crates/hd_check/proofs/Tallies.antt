-- Two lists of different numbers with the same members are as long.
use Rattle.std.proofs.Common.{◌≡◌, ◌≢◌, inl, inr, ℕ, zero, suc, ◌<◌, ◌≤◌, List, [], ◌∷◌, length, slice_index, refl, sym, ap, subst, ◌∙◌, arith}
use Rattle.hd_volume.specs.Indexes.{IsAmong}

-- no number is twice among these
abbrev pub AreDifferent : List ℕ → Type 0
AreDifferent [] = Unit {0}
AreDifferent (x ∷ xs) = (IsAmong x xs → ⊥) × AreDifferent xs

-- a list without one of its members
without : (x : ℕ) (ys : List ℕ) → IsAmong x ys → (zs : List ℕ) × (length ys ≡ suc (length zs)) × ((z : ℕ) → z ≢ x → IsAmong z ys → IsAmong z zs)
without x [] i = absurd i
without x (y ∷ ys) (inl e) = (ys, refl, λ z ne i. elim i [ inl q ↦ absurd (ne (q ∙ sym e)) | inr j ↦ j ])
without x (y ∷ ys) (inr i) =
    (let r = without x ys i in (y ∷ r.0, ap suc r.1, λ z ne j. elim j [ inl q ↦ inl q | inr k ↦ inr (r.2 z ne k) ]))

-- different numbers that are all among others are no more than those
pub no-more : (xs ys : List ℕ) → AreDifferent xs → ((x : ℕ) → IsAmong x xs → IsAmong x ys) → length xs ≤ length ys
no-more [] ys d each = omega arith
no-more (x ∷ xs) ys d each =
    let r = without x ys (each x (inl refl)) in
    let len : length ys ≡ suc (length r.0) = r.1 in
    let rest = no-more xs r.0 d.1 (λ z i. r.2 z (λ e. d.0 (let A : ℕ → Type 0 = λ y. IsAmong y xs in subst A e i)) (each z (inr i))) in
    omega arith

-- a number at an index is among the numbers
pub among-at : (xs : List ℕ) (i : ℕ) → i < length xs → IsAmong (slice_index xs i) xs
among-at [] i l = absurd (omega arith)
among-at (x ∷ xs) zero l = inl refl
among-at (x ∷ xs) (suc i) l = inr (among-at xs i (omega arith))

-- what is among the numbers is at an index
pub at-among : (x : ℕ) (xs : List ℕ) → IsAmong x xs → (i : ℕ) × (i < length xs) × (slice_index xs i ≡ x)
at-among x [] i = absurd i
at-among x (y ∷ ys) (inl e) = (0, omega arith, sym e)
at-among x (y ∷ ys) (inr i) = (let r = at-among x ys i in (suc r.0, (let l = r.1 in omega arith), r.2))

-- numbers that are each at one index are different
pub different-at : (xs : List ℕ) → ((i j : ℕ) → i < length xs → j < length xs → slice_index xs i ≡ slice_index xs j → i ≡ j) → AreDifferent xs
different-at [] one = tt
different-at (x ∷ xs) one = (
  λ i. (let r = at-among x xs i in let l = r.1 in let z : 0 ≡ suc r.0 = one 0 (suc r.0) (omega arith) (omega arith) (sym r.2) in absurd (omega arith)),
  different-at xs (λ i j k l e. (let z : suc i ≡ suc j = one (suc i) (suc j) (omega arith) (omega arith) e in omega arith)),
)
