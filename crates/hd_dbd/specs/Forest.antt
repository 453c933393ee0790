-- Forests, and their hierarchic sequence.
use Rattle.std.specs.Prelude.{ℕ, List, [], ◌∷◌, ◌++◌, Bool, true, ◌&&◌, ◌==◌, Option, Some, None}
use Rattle.std.specs.Option.{option_map_or, option_eq}
use Rattle.hd_dbd.specs.Types.{SegmentType}
use Rattle.hd_dbd.specs.Segment.{Segment}
use Rattle.hd_dbd.specs.Rows.{row_fits, siblings_in_order}
use Rattle.hd_dbd.specs.Hierarchy.{parent_of}

-- The nodes below one parent, or the roots, in their order: what stands at the first, what depends on it, and the nodes
-- behind it.
pub data Forest (A : Type 0) : Type 0 where
  empty : Forest A
  node : A → Forest A → Forest A → Forest A

-- hierarchic sequence: each node, then what depends on it, then the nodes behind it
abbrev pub sequence : {A : Type 0} → Forest A → List A
sequence empty = []
sequence (node r below behind) = r ∷ (sequence below ++ sequence behind)

-- The nodes below a parent of the given type, the first of them behind a row: each row has a type with its length, of
-- that parent, and may stand behind the row before it among them.
abbrev pub fits_below : List SegmentType → Option ℕ → Option Segment → Forest Segment → Bool
fits_below types parent before empty = true
fits_below types parent before (node r below behind) =
    row_fits types r
    && option_eq (λ p q. p == q) (parent_of types r.code) parent
    && option_map_or (λ p. siblings_in_order types p r) before true
    && fits_below types (Some r.code) None below
    && fits_below types parent (Some r) behind

-- a forest of the database
abbrev pub forest_fits : List SegmentType → Forest Segment → Bool
forest_fits types f = fits_below types None None f
