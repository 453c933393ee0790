-- How a span is freed: one segment after the other, each behind those that depend on it, along a path from the span's row
-- down.
use Rattle.std.specs.Prelude.{◌≡◌, ◌≤◌, ◌+◌, true, Some, None, ℕ, ◌-◌, List, [], ◌∷◌, ◌++◌, length, take, Bool, not, ◌&&◌, ◌==◌, cond}
use Rattle.hd_dbd.specs.Types.{SegmentType}
use Rattle.hd_dbd.specs.Hierarchy.{Database}
use Rattle.hd_volume.specs.Volumes.{VolumeState}
use Rattle.hd_dbd.specs.Forest.{Forest, fits_below}
use Rattle.hd_links.specs.Links.{Links, IsSegment, child_types}
use Rattle.hd_links.specs.Placed.{Placed, forest_of, count, nowhere, NodesLie, NamesChildren}
use Rattle.hd_links.specs.Steps.{first_some, child_among, later_than}
use Rattle.hd_image.specs.Pointing.{without_record}
use Rattle.hd_forest.specs.Walks.{tip, parent_on}
use Rattle.hd_forest.specs.Sets.{IsRecorded}
use Rattle.hd_image.specs.Records.{links_of}

-- The nodes below a segment lie in the records, they are nodes of the database, and no address stands twice among them and
-- the segment's own.
pub record IsSpan (types : List SegmentType) (m : Links) (a : ℕ) (under : Forest Placed) : Type 0 where
  pub there : IsSegment m a
  pub children : NamesChildren types m (m.code a) a under
  pub nodes : NodesLie types m nowhere under
  pub fits : fits_below types (Some (m.code a)) None (forest_of under) ≡ true
  pub once : (b : ℕ) → cond (a == b) 1 0 + count b under ≤ 1

abbrev pub HasSpan : List SegmentType → Links → ℕ → Type 0
HasSpan types m a = (under : Forest Placed) × IsSpan types m a under

-- the records without a segment and these nodes
abbrev pub without_span_of : Links → ℕ → Forest Placed → Links
without_span_of m a under = record m { here = λ b. m.here b && (cond (a == b) 1 0 + count b under == 0) }

-- the first row below the last of a path, 0 for none
abbrev pub below_on : List SegmentType → Links → List ℕ → ℕ
below_on types m path = child_among m (tip path) (child_types types (m.code (tip path)))

-- what stands beside the last of a path, as far as its twins and its parent on the path tell; 0 for none, and for the first
-- of the path
abbrev pub beside_on : List SegmentType → Links → List ℕ → ℕ
beside_on types m path =
    cond (parent_on path == 0) 0
    (first_some (m.forward (tip path)) (child_among m (parent_on path) (later_than (m.code (tip path)) (child_types types (m.code (parent_on path))))))

-- a path with one row more, if there is one
abbrev pub extended : List ℕ → ℕ → List ℕ
extended path a = path ++ cond (a == 0) [] (a ∷ [])

-- A span on its way to be freed: the path to its next segment, whether what is below that is still to be freed, and the
-- records that are left.
pub record Freeing : Type 0 where
  pub path : List ℕ
  pub down : Bool
  pub records : Links

-- the last of the path is freed, and what stands beside it comes next, or its parent
abbrev pub freed_last : List SegmentType → Freeing → Freeing
freed_last types s = record {
  path = extended (take (length s.path - 1) s.path) (beside_on types s.records s.path);
  down = not (beside_on types s.records s.path == 0);
  records = without_record s.records (tip s.path);
}

-- The next step goes down to the first row below, if these are still to be freed; else the last of the path is freed.
abbrev pub freed_on : List SegmentType → Freeing → Freeing
freed_on types s =
    cond (s.down && not (below_on types s.records s.path == 0)) (record s { path = extended s.path (below_on types s.records s.path) }) (freed_last types s)

-- A step was done: so the volume's records, the path, and what is still to be freed have become.
pub record IsStep (d : Database) (old : VolumeState) (s : Freeing) (path : List ℕ) (down : Bool) (new : VolumeState) : Type 0 where
  pub path_is : path ≡ s.path
  pub down_is : down ≡ s.down
  pub records : IsRecorded d old s.records new

-- what is still to be freed along a path of a volume's records
abbrev pub freeing : Database → VolumeState → List ℕ → Bool → Freeing
freeing d v path down = record { path = path; down = down; records = links_of d.types v }

-- A span was freed: whatever nodes are below the segment, the records are those without it and them.
abbrev pub IsFreedSpan : Database → VolumeState → ℕ → VolumeState → Type 0
IsFreedSpan d old a new =
    (under : Forest Placed) → IsSpan d.types (links_of d.types old) a under → IsRecorded d old (without_span_of (links_of d.types old) a under) new
