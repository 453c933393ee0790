-- Lists that are changed place by place.
use Rattle.std.proofs.Common.{◌≡◌, ℕ, zero, suc, ◌+◌, ◌<◌, List, [], ◌∷◌, ◌++◌, length, take, drop, refl, ap, ◌∙◌, arith}
use Rattle.std.specs.Prelude.{map, slice_set, slice_index_or}

-- one place more
set_next : {A : Type 0} (F : A → A) (n : ℕ) (xs : List A) (d : A) → n < length xs
    → slice_set (map F (take n xs) ++ drop n xs) n (F (slice_index_or xs n d)) ≡ map F (take (suc n) xs) ++ drop (suc n) xs
set_next F zero [] d within = absurd (omega arith)
set_next F zero (x ∷ xs) d within = refl
set_next F (suc n) [] d within = absurd (omega arith)
set_next F (suc n) (x ∷ xs) d within = ap (λ ys. F x ∷ ys) (set_next F n xs d (omega arith))

-- what stands there is what stood there
got_next : {A : Type 0} (F : A → A) (n : ℕ) (xs : List A) (d : A) → n < length xs → slice_index_or (map F (take n xs) ++ drop n xs) n d ≡ slice_index_or xs n d
got_next F zero [] d within = absurd (omega arith)
got_next F zero (x ∷ xs) d within = refl
got_next F (suc n) [] d within = absurd (omega arith)
got_next F (suc n) (x ∷ xs) d within = got_next F n xs d (omega arith)

-- A function was applied to the places before n; then to the place n too.
pub map_one_more : {A : Type 0} (F : A → A) (n : ℕ) (xs ys : List A) (y z : A) → n < length ys → xs ≡ map F (take n ys) ++ drop n ys → y ≡ slice_index_or xs n y → z ≡ F y
    → slice_set xs n z ≡ map F (take (n + 1) ys) ++ drop (n + 1) ys
map_one_more {A = A} F n xs ys y z within is at changed =
    let one : y ≡ slice_index_or ys n y = at ∙ ap (λ (l : List A). slice_index_or l n y) is ∙ got_next F n ys y within in
    let next : suc n ≡ n + 1 = omega arith in
    ap (λ (l : List A). slice_set l n z) is
    ∙ ap (λ (w : A). slice_set (map F (take n ys) ++ drop n ys) n w) (changed ∙ ap F one)
    ∙ set_next F n ys y within
    ∙ ap (λ (m : ℕ). map F (take m ys) ++ drop m ys) next
