-- Why a check is exact.
use Rattle.std.specs.Prelude.{ℕ}
use Rattle.hd_dbd.specs.Hierarchy.{Database}
use Rattle.hd_dbd.specs.Forest.{Forest}
use Rattle.hd_volume.specs.Volumes.{VolumeState}
use Rattle.hd_links.specs.Placed.{Placed}
use Rattle.hd_image.specs.Holding.{HoldsPlaced}
use Rattle.hd_image.specs.Laws.{IsDatabase}
use Rattle.hd_image.specs.Right.{IsRight}
use Rattle.hd_image.specs.Standing.{Stands}
use Rattle.hd_image.specs.declared.line.Line.{Line}

-- A volume with which nothing is wrong holds a forest.
abbrev pub RightVolumesHoldAForest : Type 0
RightVolumesHoldAForest = (d : Database) (v : VolumeState) → IsDatabase d → IsRight d v → (f : Forest Placed) × HoldsPlaced d v f

-- In a volume that holds a forest no fault stands.
abbrev pub HeldForestsHaveNoFault : Type 0
HeldForestsHaveNoFault =
    (d : Database) (v : VolumeState) (f : Forest Placed) (line : Line) (address other : ℕ) → IsDatabase d → HoldsPlaced d v f
    → Stands d v line address other → ⊥
