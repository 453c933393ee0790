-- How the calls that change a volume move what is kept of a PCB.
use Rattle.std.specs.Prelude.{◌≡◌, ℕ, ◌+◌, List, length, map}
use Rattle.hd_dbd.specs.Hierarchy.{Database}
use Rattle.hd_dbd.specs.Segment.{Segment}
use Rattle.hd_dbd.specs.Forest.{Forest}
use Rattle.hd_dbd.specs.Loads.{last_path}
use Rattle.hd_volume.specs.Volumes.{VolumeState}
use Rattle.hd_links.specs.Placed.{Placed, Holds}
use Rattle.hd_links.specs.Changes.{with_leaf, without_span}
use Rattle.hd_links.specs.LastRows.{last_on, segments_of}
use Rattle.hd_links.specs.Numbers.{LeafGoesInAt}
use Rattle.hd_links.specs.Steps.{rows_of}
use Rattle.hd_image.specs.Records.{links_of, IsVolumeOf}
use Rattle.hd_forest.specs.Walks.{tip, parent_on}
use Rattle.hd_forest.specs.Rows.{IsOnRow}
use Rattle.hd_forest.specs.Updates.{MayLink, IsLinked, IsUnlinked}
use Rattle.hd_position.specs.Kept.{path_before}
use Rattle.hd_position.specs.Laws.{IsHeld, MovesUp, MovesDown}

-- A forest that the records of a volume hold is held: so each law of held forests is one of volumes.
abbrev pub ForestsOfVolumesAreHeld : Type 0
ForestsOfVolumesAreHeld =
    (d : Database) (v : VolumeState) (f : Forest Placed) → IsVolumeOf d v → Holds d.types (links_of d.types v) f
    → IsHeld d.block_size d.frspc d.types (length v.image) (links_of d.types v) f

-- A row that was linked went in at a number of the sequence, and moves positions up from there.
abbrev pub LinkedRowsMovePositions : Type 0
LinkedRowsMovePositions =
    (d : Database) (old new : VolumeState) (h y : ℕ) (row : Segment) (a : ℕ) (f : Forest Placed) → IsVolumeOf d old
    → MayLink d.types (links_of d.types old) h y row → IsLinked d old h y row a new → Holds d.types (links_of d.types old) f
    → let p : Placed = record { address = a; segment = row } in
    (n : ℕ) × LeafGoesInAt d.types f h y p n × MovesUp d.types f (with_leaf h y p f) n

-- A row that was linked below a row just linked went in just behind it.
abbrev pub LinkedPathsGoInTogether : Type 0
LinkedPathsGoInTogether =
    (d : Database) (old new : VolumeState) (h y : ℕ) (row : Segment) (a : ℕ) (lower : Placed) (f : Forest Placed) (n k : ℕ) → IsVolumeOf d old
    → MayLink d.types (links_of d.types old) h y row → IsLinked d old h y row a new → Holds d.types (links_of d.types old) f
    → let p : Placed = record { address = a; segment = row } in
    LeafGoesInAt d.types f h y p n → LeafGoesInAt d.types (with_leaf h y p f) a 0 lower k → k ≡ n + 1

-- A row whose span was unlinked moves positions down to itself, by its address and the length of its path.
abbrev pub UnlinkedRowsMovePositions : Type 0
UnlinkedRowsMovePositions =
    (d : Database) (old new : VolumeState) (path : List ℕ) (f : Forest Placed) (i : ℕ) → IsVolumeOf d old
    → IsUnlinked d old path new → IsOnRow d.types (links_of d.types old) f path i
    → MovesDown d.types f (without_span (parent_on path) (tip path) f) (tip path) (length path) i

-- The path of the last row passed, behind all rows, is that of the forest's last row, and its segments are the path that a load keeps.
abbrev pub LastPathsAreKept : Type 0
LastPathsAreKept =
    (d : Database) (v : VolumeState) (f : Forest Placed) → IsVolumeOf d v → Holds d.types (links_of d.types v) f
    → (path_before d.types f (length (rows_of f)) ≡ map (λ p. p.address) (last_on f)) × (segments_of (last_on f) ≡ last_path d.types (rows_of f))
