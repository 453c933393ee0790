-- The bytes of volumes as the images that a log of calls speaks of.
use Rattle.std.specs.Prelude.{◌≡◌, ◌↔◌, ◌⊎◌, ℕ, ◌+◌, ◌<◌, ◌≤◌, List, [], ◌∷◌, length, true, Bool, cond}
use Rattle.hd_dbd.specs.Hierarchy.{Database}
use Rattle.hd_dbd.specs.Segment.{Segment}
use Rattle.hd_dbd.specs.Forest.{Forest}
use Rattle.hd_calls.specs.Moves.{Change}
use Rattle.hd_calls.specs.Runs.{Images, stored_sizes, rows_stored, has_root, inserts_root, blocks_for, AddressesFollow, LacksRoom, Follows}
use Rattle.hd_volume.specs.Headers.{header_of}
use Rattle.hd_volume.specs.Volumes.{VolumeState}
use Rattle.hd_volume.specs.Rooms.{spare, HasHole}
use Rattle.hd_index_blocks.specs.Needs.{entry_growth, IsHighest}
use Rattle.hd_links.specs.Placed.{Placed}
use Rattle.hd_links.specs.Steps.{rows_of, addresses}
use Rattle.hd_image.specs.Records.{IsVolumeOf}
use Rattle.hd_image.specs.Holding.{HoldsPlaced, volume_of}

-- The volume of these bytes holds these rows, in hierarchic sequence, at these addresses.
pub record HoldsRowsAt (d : Database) (image : List ℕ) (rows : List Segment) (places : List ℕ) : Type 0 where
  pub placed : Forest Placed
  pub holds : HoldsPlaced d (volume_of d image) placed
  pub rows_are : rows_of placed ≡ rows
  pub places_are : addresses placed ≡ places

-- what a database's volumes are as images
abbrev pub images_of : Database → Images (List ℕ)
images_of d = record {
  HoldsAt = HoldsRowsAt d;
  largest = λ image. (header_of image).largest;
  spare = λ image. spare (volume_of d image);
  index_growth = λ image. entry_growth (volume_of d image);
  IsHighest = λ image. IsHighest (volume_of d image);
  HasHole = λ image. HasHole (volume_of d image);
}

-- Where a volume holds a forest, its bytes hold the forest's rows at their addresses, and no other rows.
abbrev pub VolumesHoldTheirRows : Type 0
VolumesHoldTheirRows =
    (d : Database) (v : VolumeState) (f : Forest Placed) → HoldsPlaced d v f
    → HoldsRowsAt d v.image (rows_of f) (addresses f)
    × ((rows : List Segment) (places : List ℕ) → HoldsRowsAt d v.image rows places → (rows ≡ rows_of f) × (places ≡ addresses f))

-- A volume has the room that its bytes have.
abbrev pub VolumesHaveTheirRoom : Type 0
VolumesHaveTheirRoom =
    (d : Database) (v : VolumeState) → IsVolumeOf d v
    → ((images_of d).spare v.image ≡ spare v) × ((images_of d).index_growth v.image ≡ entry_growth v) × ((images_of d).IsHighest v.image ↔ IsHighest v) × ((n : ℕ) → (images_of d).HasHole v.image n ↔ HasHole v n)

-- An image lacks room for rows just where its volume has fewer blocks to spare than they may need, or a root is put in and its index may
-- have no level more, and either a root is put in or no hole is as large as all of them together.
abbrev pub LackingRoomIsTheRule : Type 0
LackingRoomIsTheRule =
    (d : Database) (v : VolumeState) (rows : List Segment) (root : Bool) → IsVolumeOf d v
    → LacksRoom (images_of d) d.types v.image rows root
    ↔ (((spare v < length rows + cond root (entry_growth v) 0) ⊎ ((root ≡ true) × IsHighest v)) × ((root ≡ true) ⊎ (HasHole v (stored_sizes d.types rows) → ⊥)))

-- a volume's bytes lack room for one row more
abbrev pub LacksRoomForRow : Database → VolumeState → Segment → Type 0
LacksRoomForRow d v row = LacksRoom (images_of d) d.types v.image (row ∷ []) (has_root (row ∷ []))

-- A volume's bytes follow from those before by a change of the rows where the largest count stays, no more blocks were taken than the
-- change may need, and the addresses of the two forests follow.
abbrev pub VolumesFollow : Type 0
VolumesFollow =
    (d : Database) (v w : VolumeState) (f g : Forest Placed) (change : Change) → HoldsPlaced d v f → HoldsPlaced d w g
    → (header_of w.image).largest ≡ (header_of v.image).largest → spare v ≤ spare w + blocks_for (images_of d) v.image (rows_stored (rows_of f) change) (inserts_root change)
    → AddressesFollow (rows_of f) change (addresses f) (addresses g)
    → Follows (images_of d) (rows_of f) v.image change (rows_of g) w.image
