-- Keys in the order of the numbers that they make with zeros behind them.
use Rattle.std.proofs.Common.{◌≡◌, ℕ, zero, suc, ◌+◌, ◌-◌, ◌*◌, ◌^◌, ◌%◌, ◌<◌, ◌≤◌, List, [], ◌∷◌, ◌++◌, length, take, drop, replicate, get_or, false, refl, sym, ap, ◌∙◌, arith, ltb, w32, w64}
use Rattle.std.specs.Int.{from_be_bytes}
use Rattle.std.specs.Ordering.{MatchOrdering, nat_cmp, is_lt, ordering_then}
use Rattle.std.specs.Cmp.{ranks}
use Rattle.std.specs.Cmp.Lexicographic.{slice_cmp}
use Rattle.std.specs.declared.cmp.Ordering.{Ordering}
use Rattle.std.specs.declared.cmp.Ordering.TheVariants.{Less, Equal, Greater}
use Rattle.std.proofs.lemmas.Bool.{lt-ltb, le-ltb}
use Rattle.std.proofs.lemmas.Grind.{common_steps}
use Rattle.std.proofs.lemmas.List.{length-take-le, length-append, take_all, take-take, get_or-drop}
use Rattle.hd_dbd.proofs.KeyOrder.{eight-order}
use Rattle.hd_dbd.specs.KeyNumbers.{with_zeros, IsNumberOf}

-- where the first bytes are the same, the rest decides
rest-decides : (o a b : Ordering) → is_lt a ≡ is_lt b → is_lt (ordering_then o a) ≡ is_lt (ordering_then o b)
rest-decides Less a b e = refl
rest-decides Equal a b e = e
rest-decides Greater a b e = refl

-- the number of four to eight bytes with zeros behind them, by the first four and the last four
pub ends-number : (key : List ℕ) → 4 ≤ length key → length key ≤ 8 → ((i : ℕ) → get_or key i 0 < 256)
    → (from_be_bytes w32 (take 4 key) * 2 ^ 32) % 2 ^ 64 + (from_be_bytes w32 (take 4 (take (length key - (length key - 4)) (drop (length key - 4) key))) * 2 ^ (8 * (8 - length key))) % 2 ^ 64 % 2 ^ 32
    ≡ from_be_bytes w64 (take 8 (with_zeros key))
ends-number [] four eight small = absurd (omega arith)
ends-number (a ∷ []) four eight small = absurd (omega arith)
ends-number (a ∷ b ∷ []) four eight small = absurd (omega arith)
ends-number (a ∷ b ∷ c ∷ []) four eight small = absurd (omega arith)
ends-number (a ∷ b ∷ c ∷ d ∷ []) four eight small = (let p = small 0 in let q = small 1 in let r = small 2 in let s = small 3 in omega arith)
ends-number (a ∷ b ∷ c ∷ d ∷ e ∷ []) four eight small = (let p = small 0 in let q = small 1 in let r = small 2 in let s = small 3 in let t = small 4 in omega arith)
ends-number (a ∷ b ∷ c ∷ d ∷ e ∷ f ∷ []) four eight small = (let p = small 0 in let q = small 1 in let r = small 2 in let s = small 3 in let t = small 4 in let u = small 5 in omega arith)
ends-number (a ∷ b ∷ c ∷ d ∷ e ∷ f ∷ g ∷ []) four eight small = (let p = small 0 in let q = small 1 in let r = small 2 in let s = small 3 in let t = small 4 in let u = small 5 in let v = small 6 in omega arith)
ends-number (a ∷ b ∷ c ∷ d ∷ e ∷ f ∷ g ∷ h ∷ []) four eight small = (let p = small 0 in let q = small 1 in let r = small 2 in let s = small 3 in let t = small 4 in let u = small 5 in let v = small 6 in let w = small 7 in omega arith)
ends-number (a ∷ b ∷ c ∷ d ∷ e ∷ f ∷ g ∷ h ∷ x ∷ key) four eight small = absurd (omega arith)

-- nothing is below zeros
zeros-least : (xs zs : List ℕ) → length xs ≡ length zs → ((i : ℕ) → get_or zs i 0 ≡ 0) → is_lt (slice_cmp nat_cmp xs zs) ≡ false
zeros-least [] [] same none = refl
zeros-least [] (z ∷ zs) same none = absurd (omega arith)
zeros-least (x ∷ xs) [] same none = absurd (omega arith)
zeros-least (x ∷ xs) (z ∷ zs) same none = by (nat_cmp x z) (slice_cmp nat_cmp xs zs) (ranks x z) (none 0) (zeros-least xs zs (omega arith) (λ i. none (suc i)))
  where
    by : (o rest : Ordering) → MatchOrdering o (x < z) (x ≡ z) (z < x) → z ≡ 0 → is_lt rest ≡ false → is_lt (ordering_then o rest) ≡ false
    by Less rest h e r = absurd (omega arith)
    by Equal rest h e r = r
    by Greater rest h e r = refl

-- bytes are below a key with zeros behind it just where as many as the key has are below the key
front-below : (xs key zs : List ℕ) → length xs ≡ length key + length zs → ((i : ℕ) → get_or zs i 0 ≡ 0) → is_lt (slice_cmp nat_cmp (take (length key) xs) key) ≡ is_lt (slice_cmp nat_cmp xs (key ++ zs))
front-below xs [] zs same none = sym (zeros-least xs zs (omega arith) none)
front-below [] (k ∷ ks) zs same none = absurd (omega arith)
front-below (x ∷ xs) (k ∷ ks) zs same none = rest-decides (nat_cmp x k) (slice_cmp nat_cmp (take (length ks) xs) ks) (slice_cmp nat_cmp xs (ks ++ zs)) (front-below xs ks zs (omega arith) none)

-- a number is below another just where its order says so
order-below : (a b : ℕ) → is_lt (nat_cmp a b) ≡ ltb a b
order-below a b = by (nat_cmp a b) (ranks a b)
  where
    by : (o : Ordering) → MatchOrdering o (a < b) (a ≡ b) (b < a) → is_lt o ≡ ltb a b
    by Less h = sym (lt-ltb a b h)
    by Equal h = sym (le-ltb a b (omega arith))
    by Greater h = sym (le-ltb a b (omega arith))

-- zeros behind a key
zero-behind : (n i : ℕ) → get_or {A = ℕ} (drop n (replicate 8 0)) i 0 ≡ 0
zero-behind n i = get_or-drop n (replicate 8 0) i 0 ∙ zeros 8 (n + i)
  where
    zeros : (m k : ℕ) → get_or {A = ℕ} (replicate m 0) k 0 ≡ 0
    zeros zero k = refl
    zeros (suc m) zero = refl
    zeros (suc m) (suc k) = zeros m k

-- a key with zeros behind it is eight bytes
zeros-long : (key : List ℕ) → length key ≤ 8 → length (with_zeros key) ≡ 8
zeros-long key short = grind (arith, common_steps)

-- and bytes where the key's are
zeros-small : (key zs : List ℕ) → ((i : ℕ) → get_or key i 0 < 256) → ((i : ℕ) → get_or zs i 0 ≡ 0) → (i : ℕ) → get_or (key ++ zs) i 0 < 256
zeros-small [] zs small none i = omega (arith, none i)
zeros-small (k ∷ ks) zs small none zero = small 0
zeros-small (k ∷ ks) zs small none (suc i) = zeros-small ks zs (λ j. small (suc j)) none i

-- bytes are below a key just where the number of eight of them is below the key's
pub number-below : (xs key : List ℕ) (n number : ℕ) → IsNumberOf n key number → 8 ≤ length xs → ((i : ℕ) → get_or xs i 0 < 256) → ((i : ℕ) → get_or key i 0 < 256)
    → ltb (from_be_bytes w64 (take 8 xs)) number ≡ is_lt (slice_cmp nat_cmp (take n xs) key)
number-below xs key n number N many low small =
    let long : length (with_zeros key) ≡ 8 = zeros-long key (omega (arith, N.long, N.short)) in
    let eight : length (take 8 xs) ≡ 8 = length-take-le 8 xs many in
    let zeros : List ℕ = drop (length key) (replicate 8 0) in
    let whole : take 8 (with_zeros key) ≡ with_zeros key = take_all 8 (with_zeros key) (omega arith) in
    let parts : length (take 8 xs) ≡ length key + length zeros = omega (arith, long, eight, length-append key zeros) in
    let front : take (length key) (take 8 xs) ≡ take n xs = ap (λ (k : ℕ). take k (take 8 xs)) N.long ∙ take-take n 8 xs N.short in
    ap (ltb (from_be_bytes w64 (take 8 xs))) N.is
    ∙ sym (order-below (from_be_bytes w64 (take 8 xs)) (from_be_bytes w64 (take 8 (with_zeros key))))
    ∙ ap is_lt (eight-order xs (with_zeros key) many (omega arith) low (zeros-small key zeros small (zero-behind (length key))))
    ∙ ap (λ (ys : List ℕ). is_lt (slice_cmp nat_cmp (take 8 xs) ys)) whole
    ∙ sym (front-below (take 8 xs) key zeros parts (zero-behind (length key)))
    ∙ ap (λ (ys : List ℕ). is_lt (slice_cmp nat_cmp ys key)) front
