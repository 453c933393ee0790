-- A row that is put in: all or nothing.
use Rattle.std.specs.Prelude.{◌≡◌, ℕ, List, [], ◌∷◌, IsTrue, false}
use Rattle.hd_dbd.specs.declared.answer.Refused.{Refused}
use Rattle.hd_dbd.specs.declared.answer.Refused.TheVariants.{Full}
use Rattle.hd_dbd.specs.Hierarchy.{Database}
use Rattle.hd_dbd.specs.Segment.{Segment}
use Rattle.hd_dbd.specs.Forest.{Forest}
use Rattle.hd_calls.specs.Runs.{has_root, LacksRoom}
use Rattle.hd_volume.specs.Volumes.{VolumeState}
use Rattle.hd_links.specs.Placed.{Placed}
use Rattle.hd_links.specs.Changes.{with_leaf}
use Rattle.hd_links.specs.Numbers.{LeafGoesInAt}
use Rattle.hd_image.specs.Records.{links_of}
use Rattle.hd_image.specs.Holding.{HoldsPlaced}
use Rattle.hd_index.specs.Changes.{IsLater}
use Rattle.hd_forest.specs.Updates.{MayLink}
use Rattle.hd_changes.specs.Rooms.{HasRoomFor, HasMemoryFor, HasRootRoomFor, HasRootMemoryFor}
use Rattle.hd_changes.specs.NewPaths.{IsPathIn}
use Rattle.hd_changes.specs.VolumeImages.{images_of}
use Rattle.hd_position.specs.Laws.{MovesUp}
use Rattle.hd_get.specs.Starts.{HasRoots}

-- The volume, of version 2 or later, holds a forest in which a row may be linked below h behind its twin y.
pub record MayPut (d : Database) (v : VolumeState) (h y : ℕ) (row : Segment) : Type 0 where
  pub later : IsLater v
  pub placed : Forest Placed
  pub holds : HoldsPlaced d v placed
  pub may : MayLink d.types (links_of d.types v) h y row

-- The row went in below h behind its twin y, at a number of the sequence, and stands at the address a: the volume w holds the forest with
-- it, and positions move up from there.
pub record IsPutIn (d : Database) (v : VolumeState) (f : Forest Placed) (h y : ℕ) (row : Segment) (a : ℕ) (w : VolumeState) : Type 0 where
  pub number : ℕ
  pub free : (links_of d.types v).here a ≡ false
  pub goes_in : LeafGoesInAt d.types f h y (record { address = a; segment = row }) number
  pub is_in : IsPathIn d v f number [] (record { address = a; segment = row }) w (with_leaf h y (record { address = a; segment = row }) f)
  pub moves : MovesUp d.types f (with_leaf h y (record { address = a; segment = row }) f) number

-- whatever forest the sound volume v held, the row went in
abbrev pub PutsIn : Database → VolumeState → ℕ → ℕ → Segment → ℕ → VolumeState → Type 0
PutsIn d v h y row a w = (f : Forest Placed) → IsTrue v.is_sound → HoldsPlaced d v f → IsPutIn d v f h y row a w

-- rows are refused as Full only where the volume's bytes lack room for them
abbrev pub AreFullFor : Database → VolumeState → List Segment → Refused → Type 0
AreFullFor d v rows e = e ≡ Full → IsTrue v.is_sound → HasRoots d v → LacksRoom (images_of d) d.types v.image rows (has_root rows)

-- so is one row
abbrev pub IsFullFor : Database → VolumeState → Segment → Refused → Type 0
IsFullFor d v row e = AreFullFor d v (row ∷ []) e

-- ---- roots

-- There are room and memory for a root that may be put in behind its twin y, for its entry in the index, of this key, and for some rows
-- below it.
pub record CanPutRoot (d : Database) (v : VolumeState) (y : ℕ) (row : Segment) (key : List ℕ) : Type 0 where
  pub root : MayPut d v 0 y row
  pub others : List Segment
  pub room : HasRootRoomFor d v key (row ∷ others)
  pub memory : HasRootMemoryFor v (row ∷ others)

-- Once the root of a key and its entry are in, room and memory that there were for them and rows below it last for these.
abbrev pub LastsBelowRoot : Database → VolumeState → List ℕ → Segment → VolumeState → Type 0
LastsBelowRoot d v key row w =
    (rows : List Segment) → IsTrue v.is_sound → HasRootRoomFor d v key (row ∷ rows) → HasRootMemoryFor v (row ∷ rows)
    → HasRoomFor d.types w rows × HasMemoryFor d.types w rows
