-- The rows that a PCB holds, by their addresses.
use Rattle.std.specs.Prelude.{◌≡◌, ℕ, ◌<◌, List, length, map, Some, IsTrue}
use Rattle.hd_dbd.specs.Types.{SegmentType}
use Rattle.hd_dbd.specs.Hierarchy.{Database}
use Rattle.hd_dbd.specs.Paths.{row_at}
use Rattle.hd_dbd.specs.Positions.{Position}
use Rattle.hd_dbd.specs.Forest.{Forest}
use Rattle.hd_volume.specs.Volumes.{VolumeState}
use Rattle.hd_links.specs.Links.{Links}
use Rattle.hd_links.specs.Placed.{Placed, Holds}
use Rattle.hd_links.specs.Steps.{rows_of, address_at}
use Rattle.hd_image.specs.Records.{links_of}
use Rattle.hd_position.specs.Kept.{Kept, row_on}
use Rattle.hd_get.specs.Gets.{IsPositionIn}
use Rattle.hd_update.specs.declared.held.HeldRow.{HeldRow}
use Rattle.hd_prefix.specs.Fields.{code_of, bytes_of}

-- the address and the code of row i, and how many bytes it has
abbrev pub held_row : Forest Placed → ℕ → HeldRow
held_row f i = record { address = address_at f i; code = (row_at (rows_of f) i).code; length = length (row_at (rows_of f) i).bytes }

-- the same of some rows
abbrev pub held_rows : Forest Placed → List ℕ → List HeldRow
held_rows f held = map (λ i. held_row f i) held

-- The records hold the forest, and at a level of the path stands its row i.
pub record IsAtLevel (types : List SegmentType) (m : Links) (f : Forest Placed) (path : List ℕ) (level i : ℕ) : Type 0 where
  pub holds : Holds types m f
  pub within : i < length (rows_of f)
  pub is : row_on path level ≡ Some (address_at f i)

-- where the store is sound, at a level of the path stands a row of a forest that the volume holds
abbrev pub HasRowAt : Database → VolumeState → List ℕ → ℕ → Type 0
HasRowAt d v path level = IsTrue v.is_sound → (f : Forest Placed) × (i : ℕ) × IsAtLevel d.types (links_of d.types v) f path level i

-- whatever row of a forest that the sound volume holds stands at the level of the path, it is this one
abbrev pub IsRowAt : Database → VolumeState → List ℕ → ℕ → HeldRow → Type 0
IsRowAt d v path level row =
    (f : Forest Placed) (i : ℕ) → IsTrue v.is_sound → IsAtLevel d.types (links_of d.types v) f path level i → row ≡ held_row f i

-- wherever what is kept stands for a position, these are the rows that it holds
abbrev pub AreHeld : Database → VolumeState → Kept → List HeldRow → Type 0
AreHeld d v k rows = (f : Forest Placed) (q : Position) → IsPositionIn d v f k q → rows ≡ held_rows f q.held

-- the row that a segment at an address is
abbrev pub row_in_segment : List SegmentType → ℕ → List ℕ → HeldRow
row_in_segment types address segment = record { address = address; code = code_of segment; length = length (bytes_of types (code_of segment) segment) }

-- the row at an address
abbrev pub row_stored : Links → ℕ → HeldRow
row_stored m address = record { address = address; code = m.code address; length = length (m.bytes address) }
