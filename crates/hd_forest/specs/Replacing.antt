-- A segment that is given other bytes, and the row of a path that is.
use Rattle.std.specs.Prelude.{◌≡◌, ◌≢◌, ℕ, ◌+◌, ◌-◌, ◌<◌, ◌≤◌, List, length, false, not, ◌&&◌, ◌||◌, ◌==◌, cond}
use Rattle.hd_dbd.specs.Hierarchy.{Database}
use Rattle.hd_dbd.specs.Segment.{Segment}
use Rattle.hd_dbd.specs.Prefixes.{size_with}
use Rattle.hd_dbd.specs.Types.{SegmentType}
use Rattle.hd_dbd.specs.Forest.{Forest}
use Rattle.hd_volume.specs.Headers.{header_of}
use Rattle.hd_volume.specs.Volumes.{VolumeState}
use Rattle.hd_volume.specs.Spacing.{IsPlain}
use Rattle.hd_volume.specs.Rooms.{spare, HasHole}
use Rattle.hd_volume.specs.Calls.{KeepsHoles, GrowsByOne}
use Rattle.hd_prefix.specs.Fields.{code_of, bytes_of}
use Rattle.hd_links.specs.Links.{Links}
use Rattle.hd_links.specs.Placed.{Placed, Holds}
use Rattle.hd_links.specs.Changes.{Agree, with_bytes}
use Rattle.hd_links.specs.Moves.{moved_from, with_address}
use Rattle.hd_image.specs.Records.{links_of, IsVolumeOf}
use Rattle.hd_forest.specs.Walks.{tip}
use Rattle.hd_forest.specs.Updates.{KeepsTheRest}

-- the room that a row takes
abbrev pub room_of : List SegmentType → Segment → ℕ
room_of types row = size_with types row.code (length row.bytes)

-- a row takes more room than the segment at an address has
abbrev pub Outgrows : Database → VolumeState → ℕ → Segment → Type 0
Outgrows d v a row = size_with d.types ((links_of d.types v).code a) (length ((links_of d.types v).bytes a)) < room_of d.types row

-- A stored segment is one of the row: of the size that it takes, with its code and its bytes.
pub record IsRowSegment (types : List SegmentType) (row : Segment) (segment : List ℕ) : Type 0 where
  pub size : length segment ≡ room_of types row
  pub code : code_of segment ≡ row.code
  pub bytes : bytes_of types row.code segment ≡ row.bytes

-- The records after the segment at a got other bytes and stands at b, while each pointer that named it still names a.
abbrev pub set_at : Links → ℕ → ℕ → List ℕ → Links
set_at m a b bytes = record {
  here = λ x. x == b || (m.here x && not (x == a));
  code = λ x. m.code (moved_from a b x);
  delete_byte = λ x. m.delete_byte (moved_from a b x);
  bytes = λ x. cond (x == b) bytes (m.bytes x);
  forward = λ x. m.forward (moved_from a b x);
  backward = λ x. m.backward (moved_from a b x);
  first_child = λ x t. m.first_child (moved_from a b x) t;
  last_child = λ x t. m.last_child (moved_from a b x) t;
}

-- A segment that needs so much room and stood at a stands at an address: at a where that has the room, or else where nothing stood. A hole
-- of its size is used where there is one, and what it leaves is room again.
pub record IsRoomTaken (d : Database) (old : VolumeState) (a to need : ℕ) (new : VolumeState) : Type 0 where
  pub some : 0 < to
  pub free : to ≢ a → (links_of d.types old).here to ≡ false
  pub stays : need ≤ size_with d.types ((links_of d.types old).code a) (length ((links_of d.types old).bytes a)) → to ≡ a
  pub moves : size_with d.types ((links_of d.types old).code a) (length ((links_of d.types old).bytes a)) < need → to ≢ a
  pub rest : KeepsTheRest old new
  pub count : (header_of old.image).count ≤ (header_of new.image).count
  pub grows : (header_of new.image).count ≤ (header_of old.image).count + 2
  pub by_one : GrowsByOne old new
  pub spares : spare old ≤ spare new + 1
  pub in_hole : IsPlain old → HasHole old need → spare new ≡ spare old
  pub holes : (n : ℕ) → need < n → HasHole old n → HasHole new (n - need)
  pub in_place : to ≡ a → (spare new ≡ spare old) × KeepsHoles old new

-- The segment at a got the bytes of the row, and stands at an address, while each pointer that named it still names a.
pub record IsSegmentSet (d : Database) (old : VolumeState) (a : ℕ) (row : Segment) (to : ℕ) (new : VolumeState) : Type 0 where
  pub volume : IsVolumeOf d new
  pub records : Agree d.types (set_at (links_of d.types old) a to row.bytes) (links_of d.types new)
  pub room : IsRoomTaken d old a to (room_of d.types row) new

-- The last row of the path got the bytes of the row, and stands at an address: each forest that the records held has it there with these.
pub record IsRowSet (d : Database) (old : VolumeState) (path : List ℕ) (row : Segment) (to : ℕ) (new : VolumeState) : Type 0 where
  pub volume : IsVolumeOf d new
  pub forest : (f : Forest Placed) → Holds d.types (links_of d.types old) f → Holds d.types (links_of d.types new) (with_address (tip path) to (with_bytes (tip path) row.bytes f))
  pub room : IsRoomTaken d old (tip path) to (room_of d.types row) new
