-- What stands in lists, and on paths.
use Rattle.std.proofs.Common.{◌≡◌, ℕ, suc, ◌+◌, List, [], ◌∷◌, ◌++◌, length, arith, ap, ◌∙◌, refl, Option, Some}
use Rattle.std.specs.Prelude.{slice_get}
use Rattle.std.proofs.lemmas.List.{length-append}
use Rattle.hd_position.specs.Kept.{row_on}

-- what stands behind so many
pub got_behind : (xs ys : List ℕ) (y : ℕ) → slice_get (xs ++ y ∷ ys) (length xs) ≡ Some y
got_behind [] ys y = refl
got_behind (x ∷ xs) ys y = got_behind xs ys y

-- the last on a path
pub last_on : (xs : List ℕ) (x : ℕ) → row_on (xs ++ x ∷ []) (length (xs ++ x ∷ [])) ≡ Some x
last_on xs x =
    ap (row_on (xs ++ x ∷ [])) (let e : length (xs ++ x ∷ []) ≡ length xs + 1 = length-append xs (x ∷ []) in let s : length (xs ++ x ∷ []) ≡ suc (length xs) = omega arith in s)
    ∙ got_behind xs [] x

-- the first of some rows on a path
abbrev pub first : Option ℕ → List (Option ℕ) → Option ℕ
first d [] = d
first d (o ∷ os) = o

-- those behind it
abbrev pub rest : List (Option ℕ) → List (Option ℕ)
rest [] = []
rest (o ∷ os) = os
