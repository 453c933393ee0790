-- The rows of a path, as their segments.
use Rattle.std.proofs.Common.{◌≡◌, ℕ, zero, suc, ◌++◌, List, [], ◌∷◌, take, Bool, Option, Some, None, refl, sym, ap, ◌∙◌}
use Rattle.std.specs.Prelude.{◌==◌, ◌||◌, option_map, map, slice_get}
use Rattle.std.specs.List.{list_any}
use Rattle.std.proofs.lemmas.List.{map-append}
use Rattle.hd_dbd.specs.Segment.{Segment}
use Rattle.hd_salvage.specs.declared.path.Row.{Row}
use Rattle.hd_salvage.specs.Paths.{row_of}

-- a row of a type among some rows
pub any-of-type : (code : ℕ) (rows : List Row) → list_any (λ r. r.code == code) rows ≡ list_any (λ q. q.code == code) (map (λ r. row_of r) rows)
any-of-type code [] = refl
any-of-type code (r ∷ rows) = ap (λ (b : Bool). r.code == code || b) (any-of-type code rows)

-- the row at a place
pub row-at : (rows : List Row) (i : ℕ) → option_map (λ r. row_of r) (slice_get rows i) ≡ slice_get (map (λ r. row_of r) rows) i
row-at [] zero = refl
row-at [] (suc i) = refl
row-at (r ∷ rows) zero = refl
row-at (r ∷ rows) (suc i) = row-at rows i

-- the rows at the front
front : (rows : List Row) (n : ℕ) → map (λ r. row_of r) (take n rows) ≡ take n (map (λ r. row_of r) rows)
front rows zero = refl
front [] (suc n) = refl
front (r ∷ rows) (suc n) = ap (λ (xs : List Segment). row_of r ∷ xs) (front rows n)

-- a path that goes on to a row
pub stepped : (rows pushed : List Row) (path : List Segment) (above : ℕ) (row : Row) (segment : Segment) → map (λ r. row_of r) rows ≡ path → pushed ≡ take above rows ++ row ∷ [] → row_of row ≡ segment
    → map (λ r. row_of r) pushed ≡ take above path ++ segment ∷ []
stepped rows pushed path above row segment view is same =
    ap (λ (xs : List Row). map (λ r. row_of r) xs) is
    ∙ map-append (λ (r : Row). row_of r) (take above rows) (row ∷ [])
    ∙ ap (λ (xs : List Segment). xs ++ row_of row ∷ []) (front rows above)
    ∙ ap (λ (xs : List Segment). take above xs ++ row_of row ∷ []) view
    ∙ ap (λ (s : Segment). take above path ++ s ∷ []) same
