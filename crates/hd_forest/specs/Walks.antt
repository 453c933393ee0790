-- Paths of addresses, and the walk from row to row.
use Rattle.std.specs.Prelude.{◌≡◌, ℕ, zero, suc, ◌<◌, ◌-◌, List, [], ◌∷◌, ◌++◌, length, take, ◌==◌, cond, Some}
use Rattle.hd_dbd.specs.Types.{SegmentType}
use Rattle.hd_dbd.specs.Hierarchy.{Database, level_of}
use Rattle.hd_dbd.specs.Forest.{Forest}
use Rattle.hd_volume.specs.Volumes.{VolumeState}
use Rattle.hd_volume.specs.Records.{find}
use Rattle.hd_links.specs.Links.{Links, IsSegment, child_types}
use Rattle.hd_links.specs.Placed.{Placed, Holds}
use Rattle.hd_links.specs.Steps.{tip_from, child_among, next_row, behind_span}
use Rattle.hd_image.specs.Records.{links_of, IsVolumeOf}
use Rattle.hd_forest.specs.declared.walk.Ahead.{Ahead}
use Rattle.hd_forest.specs.Onward.{onward}

-- the last address of a path, 0 for none
abbrev pub tip : List ℕ → ℕ
tip path = tip_from 0 path

-- the address before the last of a path: 0, the header, above a root
abbrev pub parent_on : List ℕ → ℕ
parent_on path = tip (take (length path - 1) path)

-- each address of the path is that of a segment
abbrev pub AreSegments : Links → List ℕ → Type 0
AreSegments m [] = Unit {0}
AreSegments m (a ∷ path) = IsSegment m a × AreSegments m path

-- The path of the row at an address just behind what a path leads to: as much of the path as is above the row's level, and
-- the row; no path for the address 0.
abbrev pub moved : List SegmentType → Links → List ℕ → ℕ → List ℕ
moved types m path a = cond (a == 0) [] (take (level_of types (m.code a) - 1) path ++ a ∷ [])

-- the path of the row behind the last of a path, none behind the last row; that of the first root behind no path
abbrev pub next_on : List SegmentType → Links → List ℕ → List ℕ
next_on types m path = moved types m path (next_row types m path)

-- the path of the row behind the span of the last of a path, none where there is none
abbrev pub next_after_span_on : List SegmentType → Links → List ℕ → List ℕ
next_after_span_on types m path = moved types m path (behind_span types m path)

-- the path after so many steps from row to row, from the first row on
abbrev pub walked : List SegmentType → Links → ℕ → List ℕ
walked types m zero = next_on types m []
walked types m (suc n) = next_on types m (walked types m n)

-- What the segment a names ahead of it: the first row below it, its next twin, 0 for none each, and its code.
pub record IsAhead (types : List SegmentType) (m : Links) (a : ℕ) (ahead : Ahead) : Type 0 where
  pub below : ahead.below ≡ child_among m a (child_types types (m.code a))
  pub twin : ahead.twin ≡ m.forward a
  pub code : ahead.code ≡ m.code a

-- the fact holds of the records of each volume of the database that has these bytes as the segment at an address
abbrev pub OfFound : Database → List ℕ → (Links → ℕ → Type 0) → Type 0
OfFound d segment fact = (v : VolumeState) (a : ℕ) → IsVolumeOf d v → find v a ≡ Some segment → fact (links_of d.types v) a

-- the volume's records hold a placed forest
abbrev pub HasForest : Database → VolumeState → Type 0
HasForest d v = (f : Forest Placed) × Holds d.types (links_of d.types v) f

-- the row behind what a path leads to is the one at an address, of a type
abbrev pub IsNextOn : List SegmentType → Links → List ℕ → ℕ → ℕ → Type 0
IsNextOn types m path a code = (onward types path a code ≡ next_on types m path) × (code ≡ m.code a)

-- wherever the last row of a path names this ahead of it, the row behind it is the one at an address, of a type
abbrev pub IsTwinBy : Ahead → ℕ → ℕ → Type 0
IsTwinBy ahead a code =
    (d : Database) (v : VolumeState) (path : List ℕ) → IsVolumeOf d v → HasForest d v → AreSegments (links_of d.types v) path → 0 < tip path → IsAhead d.types (links_of d.types v) (tip path) ahead
    → IsNextOn d.types (links_of d.types v) path a code

-- wherever the last row of a path names this ahead of it, the new path leads to the row behind it
abbrev pub IsNextBy : Database → Ahead → List ℕ → List ℕ → Type 0
IsNextBy d ahead old new =
    (v : VolumeState) → IsVolumeOf d v → HasForest d v → AreSegments (links_of d.types v) old → 0 < tip old → IsAhead d.types (links_of d.types v) (tip old) ahead
    → new ≡ next_on d.types (links_of d.types v) old
