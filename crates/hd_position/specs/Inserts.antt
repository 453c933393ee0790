-- Where a PCB stands behind its own insertion.
use Rattle.std.specs.Prelude.{ℕ, List, length, Bool, ◌&&◌, ◌==◌, nat_lt}
use Rattle.std.specs.Option.{option_eq}
use Rattle.hd_dbd.specs.Types.{SegmentType}
use Rattle.hd_dbd.specs.Positions.{Position}
use Rattle.hd_dbd.specs.Forest.{Forest}
use Rattle.hd_calls.specs.Steps.{onto_new}
use Rattle.hd_links.specs.Links.{Links}
use Rattle.hd_links.specs.Placed.{Placed}
use Rattle.hd_links.specs.Steps.{rows_of}
use Rattle.hd_forest.specs.Rows.{IsOnRow}
use Rattle.hd_position.specs.Gets.{IsAt}
use Rattle.hd_position.specs.Kept.{Kept, StandsFor, row_on}

-- the last row of the path is below the parentage row
abbrev pub is_below_parent : Kept → List ℕ → Bool
is_below_parent k path =
    nat_lt 0 k.parent && nat_lt k.parent (length path) && option_eq (λ a b. a == b) (row_on path k.parent) (row_on k.path k.parent)

-- Wherever what was kept stood for a position, and the path is that of a row that went in, what is kept stands for where its insertion
-- leaves the PCB.
abbrev pub StandsOnNew : List SegmentType → Links → Kept → List ℕ → Kept → Type 0
StandsOnNew types m old path new =
    (f : Forest Placed) (q : Position) (i : ℕ) → IsAt types m f old q → IsOnRow types m f path i → StandsFor types f new (onto_new types (rows_of f) q i)
