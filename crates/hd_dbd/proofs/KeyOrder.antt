-- The order of keys, by the numbers that their bytes make.
use Rattle.std.proofs.Common.{◌≡◌, inl, inr, ℕ, zero, suc, ◌+◌, ◌-◌, ◌*◌, ◌^◌, ◌<◌, ◌≤◌, List, [], ◌∷◌, length, take, drop, refl, sym, ap, ap₂, subst, ◌∙◌, arith, get_or, false, w32, w64}
use Rattle.std.specs.Int.{from_be_bytes}
use Rattle.std.specs.Ordering.{MatchOrdering, nat_cmp, ordering_then, is_ne}
use Rattle.std.specs.Cmp.{nat_cmp_is, ranks}
use Rattle.std.specs.Cmp.Lexicographic.{slice_cmp}
use Rattle.std.specs.declared.cmp.Ordering.{Ordering}
use Rattle.std.specs.declared.cmp.Ordering.TheVariants.{Less, Equal, Greater}
use Rattle.std.proofs.Math.Nat.{mul-le-mul_right, pow-suc}
use Rattle.std.proofs.lemmas.Bool.{cases_lt, false≢true}
use Rattle.std.proofs.lemmas.List.{length-take-le, length-drop, take_all, take_rest}

-- the number that bytes make, the highest first
abbrev number_of : List ℕ → ℕ
number_of [] = 0
number_of (x ∷ xs) = x * 256 ^ length xs + number_of xs

-- a lower first digit makes a lower number, whatever is behind it
lower-first : (x y a b m : ℕ) → x < y → a < m → x * m + a < y * m + b
lower-first x y a b m less low =
    let rows : (x + 1) * m ≤ y * m = mul-le-mul_right m (omega arith) in
    let one : (x + 1) * m ≡ x * m + m = grind arith in
    omega arith

-- what is added to two numbers leaves their order
both-added : (p a b : ℕ) (o : Ordering) → MatchOrdering o (a < b) (a ≡ b) (b < a) → MatchOrdering o (p + a < p + b) (p + a ≡ p + b) (p + b < p + a)
both-added p a b Less h = omega arith
both-added p a b Equal h = omega arith
both-added p a b Greater h = omega arith

-- where the first digits are the same, the rest is in order as the numbers are
same-first : (x y a b m : ℕ) → x ≡ y → ordering_then (nat_cmp x y) (nat_cmp a b) ≡ nat_cmp (x * m + a) (y * m + b)
same-first x y a b m same =
    ap (λ o. ordering_then o (nat_cmp a b)) (sym (nat_cmp_is x y Equal same))
    ∙ nat_cmp_is (x * m + a) (x * m + b) (nat_cmp a b) (both-added (x * m) a b (nat_cmp a b) (ranks a b))
    ∙ ap (λ (z : ℕ). nat_cmp (x * m + a) (z * m + b)) same

-- two numbers are in the order of their first digits, or else of the rest
digits-order : (x y a b m : ℕ) → a < m → b < m → ordering_then (nat_cmp x y) (nat_cmp a b) ≡ nat_cmp (x * m + a) (y * m + b)
digits-order x y a b m low small = elim (cases_lt x y) [
  | inl less ↦ ap (λ o. ordering_then o (nat_cmp a b)) (sym (nat_cmp_is x y Less less)) ∙ nat_cmp_is (x * m + a) (y * m + b) Less (lower-first x y a b m less low)
  | inr least ↦ elim (cases_lt y x) [
    | inl more ↦ ap (λ o. ordering_then o (nat_cmp a b)) (sym (nat_cmp_is x y Greater more)) ∙ nat_cmp_is (x * m + a) (y * m + b) Greater (lower-first y x b a m more small)
    | inr most ↦ same-first x y a b m (omega arith)
  ]
]

-- bytes make less than a 1 with as many zeros behind it
number-less : (xs : List ℕ) → ((i : ℕ) → get_or xs i 0 < 256) → number_of xs < 256 ^ length xs
number-less [] small = omega arith
number-less (x ∷ xs) small =
    let first : x < 256 = small 0 in
    let rest : number_of xs < 256 ^ length xs = number-less xs (λ i. small (suc i)) in
    let is : 256 ^ suc (length xs) ≡ 256 ^ length xs * 256 = pow-suc 256 (length xs) in
    let rows : (x + 1) * 256 ^ length xs ≤ 256 * 256 ^ length xs = mul-le-mul_right (256 ^ length xs) (omega arith) in
    let one : (x + 1) * 256 ^ length xs ≡ x * 256 ^ length xs + 256 ^ length xs = grind arith in
    let turned : 256 ^ length xs * 256 ≡ 256 * 256 ^ length xs = grind arith in
    omega arith

-- as many bytes are in the order of the numbers that they make
numbers-order : (xs ys : List ℕ) → length xs ≡ length ys → ((i : ℕ) → get_or xs i 0 < 256) → ((i : ℕ) → get_or ys i 0 < 256) → slice_cmp nat_cmp xs ys ≡ nat_cmp (number_of xs) (number_of ys)
numbers-order [] [] same low small = refl
numbers-order [] (y ∷ ys) same low small = absurd (omega arith)
numbers-order (x ∷ xs) [] same low small = absurd (omega arith)
numbers-order (x ∷ xs) (y ∷ ys) same low small =
    let long : length xs ≡ length ys = omega arith in
    ap (ordering_then (nat_cmp x y)) (numbers-order xs ys long (λ i. low (suc i)) (λ i. small (suc i)))
    ∙ digits-order x y (number_of xs) (number_of ys) (256 ^ length xs) (number-less xs (λ i. low (suc i)))
    (subst (λ (n : ℕ). number_of ys < 256 ^ n) (sym long) (number-less ys (λ i. small (suc i))))
    ∙ ap (λ (n : ℕ). nat_cmp (x * 256 ^ length xs + number_of xs) (y * 256 ^ n + number_of ys)) long

-- four bytes make their number
four-number : (bs : List ℕ) → length bs ≡ 4 → from_be_bytes w32 bs ≡ number_of bs
four-number [] l = absurd (omega arith)
four-number (a ∷ []) l = absurd (omega arith)
four-number (a ∷ b ∷ []) l = absurd (omega arith)
four-number (a ∷ b ∷ c ∷ []) l = absurd (omega arith)
four-number (a ∷ b ∷ c ∷ d ∷ []) l = omega arith
four-number (a ∷ b ∷ c ∷ d ∷ x ∷ bs) l = absurd (omega arith)

-- so do eight
eight-number : (bs : List ℕ) → length bs ≡ 8 → from_be_bytes w64 bs ≡ number_of bs
eight-number [] l = absurd (omega arith)
eight-number (a ∷ []) l = absurd (omega arith)
eight-number (a ∷ b ∷ []) l = absurd (omega arith)
eight-number (a ∷ b ∷ c ∷ []) l = absurd (omega arith)
eight-number (a ∷ b ∷ c ∷ d ∷ []) l = absurd (omega arith)
eight-number (a ∷ b ∷ c ∷ d ∷ e ∷ []) l = absurd (omega arith)
eight-number (a ∷ b ∷ c ∷ d ∷ e ∷ f ∷ []) l = absurd (omega arith)
eight-number (a ∷ b ∷ c ∷ d ∷ e ∷ f ∷ g ∷ []) l = absurd (omega arith)
eight-number (a ∷ b ∷ c ∷ d ∷ e ∷ f ∷ g ∷ h ∷ []) l = omega arith
eight-number (a ∷ b ∷ c ∷ d ∷ e ∷ f ∷ g ∷ h ∷ x ∷ bs) l = absurd (omega arith)

-- the first bytes of bytes are bytes
first-small : (n : ℕ) (xs : List ℕ) → ((i : ℕ) → get_or xs i 0 < 256) → (i : ℕ) → get_or (take n xs) i 0 < 256
first-small zero xs small i = omega arith
first-small (suc n) [] small i = small i
first-small (suc n) (x ∷ xs) small zero = small 0
first-small (suc n) (x ∷ xs) small (suc i) = first-small n xs (λ j. small (suc j)) i

-- the first four bytes are in the order of their numbers
pub four-order : (xs ys : List ℕ) → 4 ≤ length xs → 4 ≤ length ys → ((i : ℕ) → get_or xs i 0 < 256) → ((i : ℕ) → get_or ys i 0 < 256)
    → nat_cmp (from_be_bytes w32 (take 4 xs)) (from_be_bytes w32 (take 4 ys)) ≡ slice_cmp nat_cmp (take 4 xs) (take 4 ys)
four-order xs ys l k low small =
    let one : length (take 4 xs) ≡ 4 = length-take-le 4 xs l in
    let other : length (take 4 ys) ≡ 4 = length-take-le 4 ys k in
    ap₂ nat_cmp (four-number (take 4 xs) one) (four-number (take 4 ys) other) ∙ sym (numbers-order (take 4 xs) (take 4 ys) (one ∙ sym other) (first-small 4 xs low) (first-small 4 ys small))

-- so are the first eight
pub eight-order : (xs ys : List ℕ) → 8 ≤ length xs → 8 ≤ length ys → ((i : ℕ) → get_or xs i 0 < 256) → ((i : ℕ) → get_or ys i 0 < 256)
    → nat_cmp (from_be_bytes w64 (take 8 xs)) (from_be_bytes w64 (take 8 ys)) ≡ slice_cmp nat_cmp (take 8 xs) (take 8 ys)
eight-order xs ys l k low small =
    let one : length (take 8 xs) ≡ 8 = length-take-le 8 xs l in
    let other : length (take 8 ys) ≡ 8 = length-take-le 8 ys k in
    ap₂ nat_cmp (eight-number (take 8 xs) one) (eight-number (take 8 ys) other) ∙ sym (numbers-order (take 8 xs) (take 8 ys) (one ∙ sym other) (first-small 8 xs low) (first-small 8 ys small))

-- what decides before the rest decides with anything behind it
then-then : (a b c : Ordering) → ordering_then (ordering_then a b) c ≡ ordering_then a (ordering_then b c)
then-then Less b c = refl
then-then Equal b c = refl
then-then Greater b c = refl

-- the first bytes decide, or else the rest
pub parts-order : (n : ℕ) (xs ys : List ℕ) → n ≤ length xs → n ≤ length ys → slice_cmp nat_cmp xs ys ≡ ordering_then (slice_cmp nat_cmp (take n xs) (take n ys)) (slice_cmp nat_cmp (drop n xs) (drop n ys))
parts-order zero xs ys l k = refl
parts-order (suc n) [] ys l k = absurd (omega arith)
parts-order (suc n) (x ∷ xs) [] l k = absurd (omega arith)
parts-order (suc n) (x ∷ xs) (y ∷ ys) l k =
    ap (ordering_then (nat_cmp x y)) (parts-order n xs ys (omega arith) (omega arith)) ∙ sym (then-then (nat_cmp x y) (slice_cmp nat_cmp (take n xs) (take n ys)) (slice_cmp nat_cmp (drop n xs) (drop n ys)))

-- where the first bytes are the same, so are fewer of them
fewer-same : (n m : ℕ) (xs ys : List ℕ) → n ≤ m → m ≤ length xs → m ≤ length ys → slice_cmp nat_cmp (take m xs) (take m ys) ≡ Equal → slice_cmp nat_cmp (take n xs) (take n ys) ≡ Equal
fewer-same zero m xs ys less l k h = refl
fewer-same (suc n) zero xs ys less l k h = absurd (omega arith)
fewer-same (suc n) (suc m) [] ys less l k h = absurd (omega arith)
fewer-same (suc n) (suc m) (x ∷ xs) [] less l k h = absurd (omega arith)
fewer-same (suc n) (suc m) (x ∷ xs) (y ∷ ys) less l k h = both (nat_cmp x y) _ _ (fewer-same n m xs ys (omega arith) (omega arith) (omega arith)) h
  where
    both : (o a b : Ordering) → (a ≡ Equal → b ≡ Equal) → ordering_then o a ≡ Equal → ordering_then o b ≡ Equal
    both Less a b more h = h
    both Equal a b more h = more h
    both Greater a b more h = h

-- bytes whose first ones are the same are in the order of the last, which may be some of those too
pub last-order : (n m : ℕ) (xs ys : List ℕ) → n ≤ m → m ≤ length xs → m ≤ length ys → slice_cmp nat_cmp (take m xs) (take m ys) ≡ Equal → slice_cmp nat_cmp (drop n xs) (drop n ys) ≡ slice_cmp nat_cmp xs ys
last-order n m xs ys less l k h =
    ap (λ o. ordering_then o (slice_cmp nat_cmp (drop n xs) (drop n ys))) (sym (fewer-same n m xs ys less l k h)) ∙ sym (parts-order n xs ys (omega arith) (omega arith))

-- what does not differ is equal
none-differs : (o : Ordering) → is_ne o ≡ false → o ≡ Equal
none-differs Less h = absurd (false≢true (sym h))
none-differs Equal h = refl
none-differs Greater h = absurd (false≢true (sym h))

-- lists of one length whose first elements are the same are in the order of as many last ones, which may be some of those too
pub ends-order : (n : ℕ) (xs ys : List ℕ) (o : Ordering) → length xs ≡ length ys → n ≤ length xs → length xs ≤ n + n → o ≡ slice_cmp nat_cmp (take n xs) (take n ys) → is_ne o ≡ false
    → slice_cmp nat_cmp (take n (take (length xs - (length xs - n)) (drop (length xs - n) xs))) (take n (take (length ys - (length xs - n)) (drop (length xs - n) ys))) ≡ slice_cmp nat_cmp xs ys
ends-order n xs ys o same some few is none =
    let i : ℕ = length xs - n in
    let one : length (drop i xs) ≡ length xs - i = length-drop i xs in
    let other : length (drop i ys) ≡ length ys - i = length-drop i ys in
    ap₂ (λ us vs. slice_cmp nat_cmp (take n us) (take n vs)) (take_rest xs i) (take_rest ys i)
    ∙ ap₂ (slice_cmp nat_cmp) (take_all n (drop i xs) (omega arith)) (take_all n (drop i ys) (omega arith))
    ∙ last-order i n xs ys (omega arith) (omega arith) (omega arith) (sym is ∙ none-differs o none)
