-- Rows that one call deletes, as a log of calls has them.
use Rattle.std.specs.Prelude.{◌≡◌, ◌≢◌, ℕ, ◌<◌, ◌≤◌, List, length}
use Rattle.hd_dbd.specs.Hierarchy.{Database}
use Rattle.hd_dbd.specs.Rows.{key_of}
use Rattle.hd_dbd.specs.Paths.{end_of}
use Rattle.hd_dbd.specs.Forest.{Forest}
use Rattle.hd_calls.specs.Moves.{deleted, rows_after}
use Rattle.hd_calls.specs.Runs.{Follows}
use Rattle.hd_volume.specs.Headers.{header_of}
use Rattle.hd_volume.specs.Volumes.{VolumeState}
use Rattle.hd_volume.specs.Rooms.{spare}
use Rattle.hd_links.specs.Links.{segment_at}
use Rattle.hd_links.specs.Placed.{Placed}
use Rattle.hd_links.specs.Changes.{without_span}
use Rattle.hd_links.specs.Steps.{rows_of, address_at}
use Rattle.hd_image.specs.Records.{links_of}
use Rattle.hd_image.specs.Holding.{HoldsPlaced}
use Rattle.hd_forest.specs.Walks.{tip, parent_on}
use Rattle.hd_forest.specs.Updates.{IsUnlinked}
use Rattle.hd_index.specs.Maps.{without_key}
use Rattle.hd_index.specs.Changes.{entries_for}
use Rattle.hd_changes.specs.Entered.{IsEntered}
use Rattle.hd_changes.specs.VolumeImages.{images_of}

-- The rows from i to the end of its span have left the forest f, which the volume v held: the volume w, of the same version, holds
-- g, the forest without them, and its bytes follow by this deletion.
pub record IsDeleted (d : Database) (v : VolumeState) (f : Forest Placed) (i : ℕ) (w : VolumeState) (g : Forest Placed) : Type 0 where
  pub holds : HoldsPlaced d w g
  pub rows : rows_of g ≡ rows_after (deleted i (end_of d.types (rows_of f) i)) (rows_of f)
  pub version : (header_of w.image).version ≡ (header_of v.image).version
  pub follows : Follows (images_of d) (rows_of f) v.image (deleted i (end_of d.types (rows_of f) i)) (rows_of g) w.image

-- A span below a row that was unlinked is deleted.
abbrev pub UnlinkedSpansAreDeleted : Type 0
UnlinkedSpansAreDeleted =
    (d : Database) (v w : VolumeState) (f : Forest Placed) (path : List ℕ) (i : ℕ) → HoldsPlaced d v f → parent_on path ≢ 0
    → i < length (rows_of f) → address_at f i ≡ tip path → IsUnlinked d v path w
    → IsDeleted d v f i w (without_span (parent_on path) (tip path) f)

-- So is that of a root, once the root's key is removed from the index.
abbrev pub UnlinkedRootsAreDeleted : Type 0
UnlinkedRootsAreDeleted =
    (d : Database) (v w x : VolumeState) (f : Forest Placed) (path : List ℕ) (i : ℕ) → HoldsPlaced d v f → parent_on path ≡ 0
    → i < length (rows_of f) → address_at f i ≡ tip path → IsUnlinked d v path w
    → IsEntered d w (without_key (key_of d.types (segment_at (links_of d.types v) (tip path))) (entries_for d w)) 0 x → spare w ≤ spare x
    → IsDeleted d v f i x (without_span 0 (tip path) f)
