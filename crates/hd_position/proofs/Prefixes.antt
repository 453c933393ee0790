-- A path as far as to a row on it is that row's.
use Rattle.std.proofs.Common.{◌≡◌, ℕ, zero, suc, List, [], ◌∷◌, ◌++◌, length, take, Bool, true, false, cond, refl, ap, sym, ◌∙◌, inl, inr, ◌⊎◌, Some}
use Rattle.std.specs.Prelude.{slice_get, nat_lt}
use Rattle.hd_dbd.specs.Types.{SegmentType}
use Rattle.hd_dbd.specs.Segment.{Segment}
use Rattle.hd_dbd.specs.Paths.{level_at, path_above, path_of}
use Rattle.hd_position.specs.Kept.{row_on, path_passed}

-- what stands in a list with one more at its end: it is in the list, or it is the last
pub record IsLastOf (xs : List ℕ) (y j x : ℕ) : Type 0 where
  pub place : j ≡ length xs
  pub is : x ≡ y

pub ended_get : (xs : List ℕ) (y j x : ℕ) → slice_get (xs ++ y ∷ []) j ≡ Some x → (slice_get xs j ≡ Some x) ⊎ IsLastOf xs y j x
ended_get [] y zero x e = inr (record { place = refl; is = (let s : x ≡ y = cc in s) })
ended_get [] y (suc j) x e = cc
ended_get (z ∷ xs) y zero x e = inl e
ended_get (z ∷ xs) y (suc j) x e = elim (ended_get xs y j x e) [ inl w ↦ inl w | inr w ↦ inr (record { place = ap suc w.place; is = w.is }) ]

take_front : (xs : List ℕ) (y j x : ℕ) → slice_get xs j ≡ Some x → take (suc j) (xs ++ y ∷ []) ≡ take (suc j) xs
take_front [] y j x e = cc
take_front (z ∷ xs) y zero x e = refl
take_front (z ∷ xs) y (suc j) x e = ap (λ (ys : List ℕ). z ∷ ys) (take_front xs y j x e)

take_whole : (xs : List ℕ) (y : ℕ) → take (suc (length xs)) (xs ++ y ∷ []) ≡ xs ++ y ∷ []
take_whole [] y = refl
take_whole (z ∷ xs) y = ap (λ (ys : List ℕ). z ∷ ys) (take_whole xs y)

module _ (types : List SegmentType) (rows : List Segment) where
  prefix_above : (l n j x : ℕ) → slice_get (path_above types rows l n) j ≡ Some x → take (suc j) (path_above types rows l n) ≡ path_of types rows x
  prefix_above l zero j x e = cc
  prefix_above l (suc n) j x e = by_level (nat_lt (level_at types rows n) l) e (λ own. prefix_above (level_at types rows n) n j x own) (λ other. prefix_above l n j x other)
    where
      by_level : (b : Bool) → slice_get (cond b (path_of types rows n) (path_above types rows l n)) j ≡ Some x
          → (slice_get (path_above types rows (level_at types rows n) n) j ≡ Some x → take (suc j) (path_above types rows (level_at types rows n) n) ≡ path_of types rows x)
          → (slice_get (path_above types rows l n) j ≡ Some x → take (suc j) (path_above types rows l n) ≡ path_of types rows x)
          → take (suc j) (cond b (path_of types rows n) (path_above types rows l n)) ≡ path_of types rows x
      by_level false is own other = other is
      by_level true is own other = elim (ended_get (path_above types rows (level_at types rows n) n) n j x is) [
        | inl front ↦ take_front (path_above types rows (level_at types rows n) n) n j x front ∙ own front
        | inr last ↦ ap (λ (k : ℕ). take (suc k) (path_of types rows n)) last.place ∙ take_whole (path_above types rows (level_at types rows n) n) n ∙ ap (path_of types rows) (sym last.is)
      ]

  -- of a row's path
  pub prefix_of : (i j x : ℕ) → slice_get (path_of types rows i) j ≡ Some x → take (suc j) (path_of types rows i) ≡ path_of types rows x
  prefix_of i j x e = elim (ended_get (path_above types rows (level_at types rows i) i) i j x e) [
    | inl front ↦ take_front (path_above types rows (level_at types rows i) i) i j x front ∙ prefix_above (level_at types rows i) i j x front
    | inr last ↦ ap (λ (k : ℕ). take (suc k) (path_of types rows i)) last.place ∙ take_whole (path_above types rows (level_at types rows i) i) i ∙ ap (path_of types rows) (sym last.is)
  ]

  take_long : (xs : List ℕ) (j x : ℕ) → slice_get xs j ≡ Some x → length (take (suc j) xs) ≡ suc j
  take_long [] j x e = cc
  take_long (y ∷ ys) zero x e = refl
  take_long (y ∷ ys) (suc j) x e = ap suc (take_long ys j x e)

  -- the path of a row at a level of the rows passed is as long as the level
  pub long_as_level : (n l x : ℕ) → row_on (path_passed types rows n) l ≡ Some x → length (path_of types rows x) ≡ l
  long_as_level zero zero x e = cc
  long_as_level zero (suc l) x e = cc
  long_as_level (suc i) zero x e = cc
  long_as_level (suc i) (suc l) x e = ap (λ (xs : List ℕ). length xs) (sym (prefix_of i l x e)) ∙ take_long (path_of types rows i) l x e
