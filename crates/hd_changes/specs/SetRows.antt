-- Rows that one call gives other bytes, and of which those that are made longer may move, as a log of calls has them.
use Rattle.std.specs.Prelude.{◌≡◌, ◌≢◌, ◌⊎◌, ℕ, ◌+◌, ◌<◌, ◌≤◌, List, [], ◌∷◌, ◌++◌, length, false, ◌==◌}
use Rattle.std.specs.List.{list_any}
use Rattle.hd_dbd.specs.Hierarchy.{Database}
use Rattle.hd_dbd.specs.Segment.{Segment}
use Rattle.hd_dbd.specs.Rows.{key_of}
use Rattle.hd_dbd.specs.Forest.{Forest}
use Rattle.hd_calls.specs.Moves.{Rewrite, rewritten, rows_after}
use Rattle.hd_calls.specs.Runs.{Follows, lengthens, rows_stored}
use Rattle.hd_volume.specs.Headers.{header_of}
use Rattle.hd_volume.specs.Volumes.{VolumeState}
use Rattle.hd_volume.specs.Rooms.{spare}
use Rattle.hd_links.specs.Links.{segment_at}
use Rattle.hd_links.specs.Placed.{Placed}
use Rattle.hd_links.specs.Changes.{with_bytes, CanReplace}
use Rattle.hd_links.specs.Moves.{with_address}
use Rattle.hd_links.specs.Steps.{rows_of, address_at}
use Rattle.hd_image.specs.Records.{links_of}
use Rattle.hd_image.specs.Holding.{HoldsPlaced}
use Rattle.hd_forest.specs.Walks.{tip}
use Rattle.hd_forest.specs.Replacing.{IsRowSet}
use Rattle.hd_index.specs.Maps as map
use Rattle.hd_index.specs.Changes.{entries_for}
use Rattle.hd_changes.specs.Entered.{IsEntered}
use Rattle.hd_changes.specs.VolumeImages.{images_of}

-- ---- one row

-- the last row of the path of a volume is no root, or it stays where it stands
abbrev pub KeepsEntry : Database → VolumeState → List ℕ → ℕ → Type 0
KeepsEntry d v path to = ((links_of d.types v).code (tip path) ≢ 1) ⊎ (to ≡ tip path)

-- A volume in which the last row of a path got other bytes holds the forest with these, where no root moved.
abbrev pub SetRowIsHeld : Type 0
SetRowIsHeld =
    (d : Database) (v w : VolumeState) (f : Forest Placed) (path : List ℕ) (row : Segment) (to : ℕ) → HoldsPlaced d v f
    → CanReplace d.types (links_of d.types v) (tip path) row.bytes → IsRowSet d v path row to w → KeepsEntry d v path to
    → HoldsPlaced d w (with_address (tip path) to (with_bytes (tip path) row.bytes f))

-- The same of a root, once its key has the address where it stands in the index.
abbrev pub SetRootIsHeld : Type 0
SetRootIsHeld =
    (d : Database) (v w x : VolumeState) (f : Forest Placed) (path : List ℕ) (row : Segment) (to : ℕ) → HoldsPlaced d v f
    → CanReplace d.types (links_of d.types v) (tip path) row.bytes → IsRowSet d v path row to w → (links_of d.types v).code (tip path) ≡ 1
    → IsEntered d w (map.with_address (key_of d.types (segment_at (links_of d.types v) (tip path))) to (entries_for d w)) 0 x
    → HoldsPlaced d x (with_address (tip path) to (with_bytes (tip path) row.bytes f))

-- ---- more than one

-- Rows of the forest f, which the volume v held, got other bytes in this order: the volume w, of the same version, holds g, the forest with
-- them, each row but those that were made longer where it stood, and no more blocks were taken than these may need.
pub record AreSet (d : Database) (v : VolumeState) (f : Forest Placed) (ws : List Rewrite) (w : VolumeState) (g : Forest Placed) : Type 0 where
  pub held : HoldsPlaced d v f
  pub holds : HoldsPlaced d w g
  pub rows : rows_of g ≡ rows_after (rewritten ws) (rows_of f)
  pub places : (i : ℕ) → lengthens (rows_of f) ws i ≡ false → address_at g i ≡ address_at f i
  pub version : (header_of w.image).version ≡ (header_of v.image).version
  pub largest : (header_of w.image).largest ≡ (header_of v.image).largest
  pub spares : spare v ≤ spare w + length (rows_stored (rows_of f) (rewritten ws))

-- At the beginning no row has other bytes.
abbrev pub SettingBegins : Type 0
SettingBegins = (d : Database) (v : VolumeState) (f : Forest Placed) → HoldsPlaced d v f → AreSet d v f [] v f

-- A row that got other bytes, and none before, is one more; if it is a root that moved, its key has its address in the index.
abbrev pub SettingGoesOn : Type 0
SettingGoesOn =
    (d : Database) (v w x : VolumeState) (f g : Forest Placed) (ws : List Rewrite) (i : ℕ) (path : List ℕ) (row : Segment) (to : ℕ) → AreSet d v f ws w g
    → i < length (rows_of g) → tip path ≡ address_at g i → list_any (λ z. z.number == i) ws ≡ false → row.code ≡ (links_of d.types w).code (tip path)
    → CanReplace d.types (links_of d.types w) (tip path) row.bytes → IsRowSet d w path row to x
    → (KeepsEntry d w path to → AreSet d v f (ws ++ record { number = i; bytes = row.bytes } ∷ []) x (with_address (tip path) to (with_bytes (tip path) row.bytes g)))
    × ((y : VolumeState) → (links_of d.types w).code (tip path) ≡ 1
    → IsEntered d x (map.with_address (key_of d.types (segment_at (links_of d.types w) (tip path))) to (entries_for d x)) 0 y → spare y ≡ spare x
    → AreSet d v f (ws ++ record { number = i; bytes = row.bytes } ∷ []) y (with_address (tip path) to (with_bytes (tip path) row.bytes g)))

-- The volume's bytes follow by these changes.
abbrev pub SettingFollows : Type 0
SettingFollows =
    (d : Database) (v w : VolumeState) (f g : Forest Placed) (ws : List Rewrite) → AreSet d v f ws w g
    → Follows (images_of d) (rows_of f) v.image (rewritten ws) (rows_of g) w.image
