-- Laws of the walk through a volume's rows.
use Rattle.std.specs.Prelude.{◌≡◌, ℕ, ◌<◌, [], length}
use Rattle.hd_dbd.specs.Hierarchy.{Database}
use Rattle.hd_dbd.specs.Paths.{row_at}
use Rattle.hd_dbd.specs.Forest.{Forest}
use Rattle.hd_volume.specs.Volumes.{VolumeState}
use Rattle.hd_links.specs.Links.{Links, segment_at}
use Rattle.hd_links.specs.Placed.{Placed, Holds}
use Rattle.hd_links.specs.Steps.{rows_of, path_at}
use Rattle.hd_image.specs.Records.{links_of, IsVolumeOf}
use Rattle.hd_image.specs.Laws.{IsDatabase}
use Rattle.hd_forest.specs.Walks.{tip, walked}
use Rattle.hd_forest.specs.Rows.{StepsGoToRows}

-- The walk from row to row gives the hierarchic sequence: after i steps it stands on the path of row i, whose segment is that
-- row, and behind the last row on no path.
abbrev pub WalkingGivesTheSequence : Type 0
WalkingGivesTheSequence =
    (d : Database) (v : VolumeState) (f : Forest Placed) → IsDatabase d → IsVolumeOf d v → Holds d.types (links_of d.types v) f
    → let m : Links = links_of d.types v in
    ((i : ℕ) → i < length (rows_of f) → (walked d.types m i ≡ path_at d.types f i) × (segment_at m (tip (walked d.types m i)) ≡ row_at (rows_of f) i))
    × (walked d.types m (length (rows_of f)) ≡ [])

-- In a volume the steps by paths are those from row to row.
abbrev pub VolumesStepFromRowToRow : Type 0
VolumesStepFromRowToRow =
    (d : Database) (v : VolumeState) (f : Forest Placed) → IsVolumeOf d v → Holds d.types (links_of d.types v) f → StepsGoToRows d.types (links_of d.types v) f
