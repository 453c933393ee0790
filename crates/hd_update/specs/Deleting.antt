-- A row that is deleted with all that depends on it.
use Rattle.std.specs.Prelude.{ℕ, List, [], ◌∷◌, length, ◌==◌, Option, find, slice_get, IsTrue}
use Rattle.hd_dbd.specs.Hierarchy.{Database}
use Rattle.hd_dbd.specs.Forest.{Forest}
use Rattle.hd_calls.specs.Ssas.{Ssa}
use Rattle.hd_volume.specs.Volumes.{VolumeState}
use Rattle.hd_links.specs.Placed.{Placed}
use Rattle.hd_links.specs.Changes.{without_span}
use Rattle.hd_image.specs.Records.{links_of}
use Rattle.hd_image.specs.Holding.{HoldsPlaced}
use Rattle.hd_index.specs.Changes.{IsLater}
use Rattle.hd_forest.specs.Walks.{tip, parent_on}
use Rattle.hd_forest.specs.Rows.{IsOnRow}
use Rattle.hd_changes.specs.Deletions.{IsDeleted}
use Rattle.hd_position.specs.Laws.{MovesDown}
use Rattle.hd_update.specs.declared.held.HeldRow.{HeldRow}

-- of the held rows the one that DLET takes: the first of the argument's type, or else the highest
abbrev pub taken_row : List Ssa → List HeldRow → Option HeldRow
taken_row [] held = slice_get held 0
taken_row (a ∷ ssas) held = find (λ h. h.code == a.code) held

-- The sound volume, of version 2 or later, holds the forest, and the path is that of its row i.
pub record IsPlacedOn (d : Database) (v : VolumeState) (f : Forest Placed) (path : List ℕ) (i : ℕ) : Type 0 where
  pub sound : IsTrue v.is_sound
  pub later : IsLater v
  pub holds : HoldsPlaced d v f
  pub row : IsOnRow d.types (links_of d.types v) f path i

-- where the store is sound, the path is that of a row of a forest that the volume holds
abbrev pub IsPlacedSomewhere : Database → VolumeState → List ℕ → Type 0
IsPlacedSomewhere d v path = IsTrue v.is_sound → (f : Forest Placed) × (i : ℕ) × IsPlacedOn d v f path i

-- The row i of the forest, of which the path is, left with its span: the volume w holds the forest without them, and positions move down.
pub record IsTakenOut (d : Database) (v : VolumeState) (f : Forest Placed) (path : List ℕ) (i : ℕ) (w : VolumeState) : Type 0 where
  pub deleted : IsDeleted d v f i w (without_span (parent_on path) (tip path) f)
  pub moves : MovesDown d.types f (without_span (parent_on path) (tip path) f) (tip path) (length path) i

-- whatever row of the sound volume v the path was of, it left with its span
abbrev pub TakesOut : Database → VolumeState → List ℕ → VolumeState → Type 0
TakesOut d v path w = (f : Forest Placed) (i : ℕ) → IsPlacedOn d v f path i → IsTakenOut d v f path i w
