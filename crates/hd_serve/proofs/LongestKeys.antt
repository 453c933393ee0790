-- The parts of a hello, from one to the next.
use Rattle.std.proofs.Common.{◌≡◌, ℕ, ◌+◌, ◌<◌, List, ◌∷◌, length, drop, get_or, map, max, sym, ap, arith, suc, add-one, drop-cons}
use Rattle.hd_dbd.specs.Hierarchy.{greatest}

-- the greatest of what is left, and of what was taken with one number more
pub greatest-more : {A : Type 0} (f : A → ℕ) (xs : List A) (i : ℕ) (x : A) (most new : ℕ) → i < length xs → x ≡ get_or xs i x → new ≡ max most (f x)
    → max new (greatest (map f (drop (i + 1) xs))) ≡ max most (greatest (map f (drop i xs)))
greatest-more f xs i x most new below is more =
    let front : drop i xs ≡ x ∷ drop (i + 1) xs = rw (add-one, drop-cons xs i x) (ap (λ y. y ∷ drop (suc i) xs) (sym is)) in
    let split : greatest (map f (drop i xs)) ≡ max (f x) (greatest (map f (drop (i + 1) xs))) = ap (λ ys. greatest (map f ys)) front in
    omega (arith, split, more)
