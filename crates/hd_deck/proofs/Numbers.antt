-- Numbers of few digits.
use Rattle.std.proofs.Common.{◌≡◌, ℕ, ◌<◌, ◌≤◌, List, [], ◌∷◌, length, get_or, take, Bool, true, false, cond, ◌==◌, min, Option, None, Some, option_map, arith, length-drop, IfSome}
use Rattle.std.specs.List.{prefix_len}
use Rattle.std.proofs.lemmas.List.{get_or-take}
use Rattle.std.proofs.lemmas.List.Folds.{length-prefix_len}
use Rattle.std.proofs.lemmas.List.Sums.{prefix_len_passes, prefix_len-le-length}
use Rattle.std.proofs.lemmas.Bool.Decides.{nat_tests}
use Rattle.hd_lines.specs.Blanks.{unpadded}
use Rattle.hd_deck.specs.Deck.{number_in}
use Rattle.hd_lines.specs.Digits.{is_digit, value_of}

-- a digit is no more than that of nine
digit_below : (b : ℕ) → is_digit b ≡ true → b ≤ 57
digit_below b is = grind (arith, nat_tests)

-- none of the digits in front is more than that of nine
front_below : (bytes : List ℕ) (k : ℕ) → k < prefix_len is_digit bytes → get_or (take (prefix_len is_digit bytes) bytes) k 48 ≤ 57
front_below bytes k low =
    let same = get_or-take (prefix_len is_digit bytes) bytes k 48 low in
    let below = digit_below (get_or bytes k 48) (prefix_len_passes is_digit bytes k 48 low) in omega arith

-- four digits or fewer spell no more than 9,999
few_digits : (xs : List ℕ) → length xs ≤ 4 → ((k : ℕ) → k < length xs → get_or xs k 48 ≤ 57) → value_of xs ≤ 9999
few_digits [] short low = omega arith
few_digits (a ∷ []) short low = let p = low 0 (omega arith) in omega arith
few_digits (a ∷ b ∷ []) short low = let p = low 0 (omega arith) in let q = low 1 (omega arith) in omega arith
few_digits (a ∷ b ∷ c ∷ []) short low =
    let p = low 0 (omega arith) in let q = low 1 (omega arith) in let r = low 2 (omega arith) in omega arith
few_digits (a ∷ b ∷ c ∷ d ∷ []) short low =
    let p = low 0 (omega arith) in let q = low 1 (omega arith) in let r = low 2 (omega arith) in let s = low 3 (omega arith) in omega arith
few_digits (a ∷ b ∷ c ∷ d ∷ e ∷ more) short low = absurd (omega arith)

-- and so do the digits in front of four bytes
few_in_front : (bytes : List ℕ) → length bytes ≤ 4 → value_of (take (prefix_len is_digit bytes) bytes) ≤ 9999
few_in_front bytes short =
    let same = length-prefix_len is_digit bytes in
    let within = prefix_len-le-length is_digit bytes in
    few_digits (take (prefix_len is_digit bytes) bytes) (omega arith) (λ k low. front_below bytes k (omega arith))

-- a choice between a number and none has that number alone
chosen_below : (b : Bool) (n m : ℕ) → n ≤ m → IfSome (cond b (Some n) None) (λ k. k ≤ m)
chosen_below true n m below = below
chosen_below false n m below = tt

-- a number in four columns is no more than 9,999
few_columns : (bytes : List ℕ) → length bytes ≤ 4 → IfSome (number_in bytes) (λ n. n ≤ 9999)
few_columns bytes short = chosen_below _ _ _ (few_in_front (unpadded bytes) (let same = length-drop (prefix_len (λ b. b == 32) bytes) bytes in omega arith))

-- a number below a bound is read as it is
read_below : (o : Option ℕ) (k : ℕ) → IfSome o (λ n. n ≤ 9999) → Some k ≡ option_map (λ n. min n 10000) o → (o ≡ Some k) × (k ≤ 9999)
read_below None k low is = absurd cc
read_below (Some n) k low is = let same : k ≡ min n 10000 = cc in let equal : n ≡ k = omega arith in (cc, omega arith)

-- so the number in four columns is read as it is
pub read_columns : (bytes : List ℕ) (k : ℕ) → length bytes ≡ 4 → Some k ≡ option_map (λ n. min n 10000) (number_in bytes) → (number_in bytes ≡ Some k) × (k ≤ 9999)
read_columns bytes k four is = read_below (number_in bytes) k (few_columns bytes (omega arith)) is
