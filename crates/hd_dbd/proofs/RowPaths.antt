-- The path of a row by its number, and that of its parent.
use Rattle.std.proofs.Common.{◌≡◌, ℕ, zero, suc, List, [], ◌∷◌, ◌++◌, ap, ◌∙◌, sym, Option, Some, refl, inl, inr}
use Rattle.std.specs.Prelude.{nat_lt}
use Rattle.std.specs.Option.{option_map_or}
use Rattle.std.proofs.lemmas.Bool.{cases_Bool, cond-true, cond-false}
use Rattle.hd_dbd.specs.Types.{SegmentType}
use Rattle.hd_dbd.specs.Segment.{Segment}
use Rattle.hd_dbd.specs.Paths.{level_at, nearest_above, parent_row, path_above, path_of}

-- the rows above a level, before a row, are the nearest of them with its parents
path_above_is : (types : List SegmentType) (rows : List Segment) (l n : ℕ)
    → path_above types rows l n ≡ option_map_or (λ p. path_of types rows p) (nearest_above types rows l n) []
path_above_is types rows l zero = refl
path_above_is types rows l (suc n) = elim (cases_Bool (nat_lt (level_at types rows n) l)) [
  | inl above ↦ cond-true (nat_lt (level_at types rows n) l) (path_of types rows n) (path_above types rows l n) above
      ∙ ap (λ (o : Option ℕ). option_map_or (λ p. path_of types rows p) o [])
      (sym (cond-true (nat_lt (level_at types rows n) l) (Some n) (nearest_above types rows l n) above))
  | inr under ↦ cond-false (nat_lt (level_at types rows n) l) (path_of types rows n) (path_above types rows l n) under
      ∙ path_above_is types rows l n
      ∙ ap (λ (o : Option ℕ). option_map_or (λ p. path_of types rows p) o [])
      (sym (cond-false (nat_lt (level_at types rows n) l) (Some n) (nearest_above types rows l n) under))
]

-- the path of a row is that of its parent, and the row
pub path_follows : (types : List SegmentType) (rows : List Segment) (i : ℕ)
    → path_of types rows i ≡ option_map_or (λ p. path_of types rows p) (parent_row types rows i) [] ++ i ∷ []
path_follows types rows i = ap (λ (path : List ℕ). path ++ i ∷ []) (path_above_is types rows (level_at types rows i) i)
