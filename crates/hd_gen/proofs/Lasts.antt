-- The last element of a list.
use Rattle.std.proofs.Common.{◌≡◌, List, [], ◌∷◌, ◌++◌, refl, ap}
use Rattle.hd_gen.specs.Drafts.{with_last}

-- a list whose last element is changed
pub with_last_is : {A : Type 0} (change : A → A) (xs : List A) (x : A) → with_last change (xs ++ x ∷ []) ≡ xs ++ change x ∷ []
with_last_is change [] x = refl
with_last_is change (y ∷ []) x = refl
with_last_is change (y ∷ z ∷ zs) x = ap (λ rest. y ∷ rest) (with_last_is change (z ∷ zs) x)
