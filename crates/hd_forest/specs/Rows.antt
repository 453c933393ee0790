-- Paths to the rows of a forest that a volume's records hold.
use Rattle.std.specs.Prelude.{◌≡◌, ℕ, ◌+◌, ◌<◌, ◌≤◌, List, [], length, nat_lt, cond}
use Rattle.hd_dbd.specs.Types.{SegmentType}
use Rattle.hd_dbd.specs.Paths.{end_of}
use Rattle.hd_dbd.specs.Forest.{Forest}
use Rattle.hd_links.specs.Links.{Links}
use Rattle.hd_links.specs.Placed.{Placed, Holds}
use Rattle.hd_links.specs.Steps.{rows_of, path_at, LeadsDown}
use Rattle.hd_forest.specs.Walks.{AreSegments, next_on, next_after_span_on}

-- the path to row i, none behind the last row
abbrev pub path_to : List SegmentType → Forest Placed → ℕ → List ℕ
path_to types f i = cond (nat_lt i (length (rows_of f))) (path_at types f i) []

-- The records hold the forest, and the path is that of its row i.
pub record IsOnRow (types : List SegmentType) (m : Links) (f : Forest Placed) (path : List ℕ) (i : ℕ) : Type 0 where
  pub holds : Holds types m f
  pub within : i < length (rows_of f)
  pub is : path ≡ path_at types f i

-- The records hold a forest, and the path is that of one of its rows.
abbrev pub IsOnSomeRow : List SegmentType → Links → List ℕ → Type 0
IsOnSomeRow types m path = (f : Forest Placed) × (i : ℕ) × IsOnRow types m f path i

-- The records hold the forest, and the path leads to its row i, or to none where i is the number behind the last.
pub record LeadsTo (types : List SegmentType) (m : Links) (f : Forest Placed) (path : List ℕ) (i : ℕ) : Type 0 where
  pub holds : Holds types m f
  pub within : i ≤ length (rows_of f)
  pub is : path ≡ path_to types f i

-- The records hold a forest, and the path leads to one of its rows, or to none behind the last.
abbrev pub LeadsSomewhere : List SegmentType → Links → List ℕ → Type 0
LeadsSomewhere types m path = (f : Forest Placed) × (i : ℕ) × LeadsTo types m f path i

-- The path of each row leads down through segments; the step from it comes to the next row, the step over its span to the row
-- behind that, and the step from no row to the first.
pub record StepsGoToRows (types : List SegmentType) (m : Links) (f : Forest Placed) : Type 0 where
  pub segments : (i : ℕ) → i < length (rows_of f) → AreSegments m (path_at types f i)
  pub down : (i : ℕ) → i < length (rows_of f) → LeadsDown types m 0 (path_at types f i)
  pub first : next_on types m [] ≡ path_to types f 0
  pub next : (i : ℕ) → i < length (rows_of f) → next_on types m (path_at types f i) ≡ path_to types f (i + 1)
  pub behind : (i : ℕ) → i < length (rows_of f) → next_after_span_on types m (path_at types f i) ≡ path_to types f (end_of types (rows_of f) i)
