-- Tables of what a function says of each code.
use Rattle.std.proofs.Common.{◌≡◌, ℕ, zero, suc, ◌+◌, ◌-◌, ◌<◌, List, [], ◌∷◌, ◌++◌, length, arith, ap, sym, ◌∙◌, refl, Some}
use Rattle.std.specs.Prelude.{slice_get}
use Rattle.std.proofs.lemmas.List.{append_assoc}
use Rattle.hd_dbd.specs.Facts.{table_from}

-- a table that has what the function says of the next code is one entry nearer to its end
pub table_more : {A : Type 0} (f : ℕ → A) (xs : List A) (x : A) (i n : ℕ) → i < n → x ≡ f (i + 1)
    → (xs ++ x ∷ []) ++ table_from f (i + 1 + 1) (n - (i + 1)) ≡ xs ++ table_from f (i + 1) (n - i)
table_more f xs x i n below is =
    let left : n - i ≡ suc (n - (i + 1)) = omega arith in
    append_assoc xs (x ∷ []) (table_from f (i + 1 + 1) (n - (i + 1)))
    ∙ ap (λ y. xs ++ (y ∷ table_from f (i + 1 + 1) (n - (i + 1)))) is
    ∙ ap (λ (m : ℕ). xs ++ table_from f (i + 1) m) (sym left)

pub length-table_from : {A : Type 0} (f : ℕ → A) (c n : ℕ) → length (table_from f c n) ≡ n
length-table_from f c zero = refl
length-table_from f c (suc n) = ap suc (length-table_from f (c + 1) n)

-- what a table has at a place within it
pub slice_get-table_from : {A : Type 0} (f : ℕ → A) (c n i : ℕ) → i < n → slice_get (table_from f c n) i ≡ Some (f (c + i))
slice_get-table_from f c zero i below = absurd (omega arith)
slice_get-table_from f c (suc n) zero below = ap (λ (k : ℕ). Some (f k)) (omega arith)
slice_get-table_from f c (suc n) (suc i) below =
    slice_get-table_from f (c + 1) n i (omega arith) ∙ ap (λ (k : ℕ). Some (f k)) (omega arith)
