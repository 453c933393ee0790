-- Room and memory for the rows that one call puts in, each linked after the one before.
use Rattle.std.specs.Prelude.{◌≡◌, ◌⊎◌, ℕ, ◌+◌, ◌≤◌, List, ◌∷◌, length}
use Rattle.hd_dbd.specs.Types.{SegmentType}
use Rattle.hd_dbd.specs.Hierarchy.{Database}
use Rattle.hd_dbd.specs.Segment.{Segment}
use Rattle.hd_dbd.specs.Prefixes.{size_with}
use Rattle.hd_dbd.specs.Forest.{Forest}
use Rattle.hd_calls.specs.Runs.{stored_sizes}
use Rattle.hd_volume.specs.Volumes.{VolumeState}
use Rattle.hd_volume.specs.Spacing.{IsPlain}
use Rattle.hd_volume.specs.Rooms.{spare, HasHole}
use Rattle.hd_volume.specs.Entries.{Entry}
use Rattle.hd_volume.specs.Indexes.{root_key_length}
use Rattle.hd_index_blocks.specs.Needs.{entry_growth, IsHighest}
use Rattle.hd_links.specs.Placed.{Placed}
use Rattle.hd_image.specs.Holding.{HoldsPlaced}
use Rattle.hd_forest.specs.Walks.{tip}
use Rattle.hd_forest.specs.Updates.{IsLinked}
use Rattle.hd_forest.specs.Replacing.{IsRowSet}
use Rattle.hd_index.specs.Places.{blocks_needed}
use Rattle.hd_index.specs.Changes.{IsLater}
use Rattle.hd_changes.specs.Entered.{IsEntered}

-- ---- one row

-- A row finds no room: no block is to spare, and no hole is as large. So much is known where `link` answers Full.
abbrev pub FindsNoRoom : List SegmentType → VolumeState → Segment → Type 0
FindsNoRoom types v row = (spare v ≡ 0) × (HasHole v (size_with types row.code (length row.bytes)) → ⊥)

-- A row finds no memory: none is reserved for a block, and no hole is as large. So much is known where `link` answers Memory.
abbrev pub FindsNoMemory : List SegmentType → VolumeState → Segment → Type 0
FindsNoMemory types v row = (v.room ≡ 0) × (HasHole v (size_with types row.code (length row.bytes)) → ⊥)

-- ---- rows of which none is a root

-- There is room for so many rows, which take so many bytes together: as many blocks are to spare, or one hole is as large as all of them.
abbrev pub HasRoom : ℕ → ℕ → VolumeState → Type 0
HasRoom count total v = (count ≤ spare v) ⊎ HasHole v total

-- there is room for the rows
abbrev pub HasRoomFor : List SegmentType → VolumeState → List Segment → Type 0
HasRoomFor types v rows = HasRoom (length rows) (stored_sizes types rows) v

-- Memory is reserved for the rows: for as many blocks, or one hole is as large as all of them together.
abbrev pub HasMemoryFor : List SegmentType → VolumeState → List Segment → Type 0
HasMemoryFor types v rows = (length rows ≤ v.room) ⊎ HasHole v (stored_sizes types rows)

-- Where there is room and memory for rows, the first finds both.
abbrev pub FirstRowsFindRoom : Type 0
FirstRowsFindRoom =
    (types : List SegmentType) (v : VolumeState) (row : Segment) (rest : List Segment)
    → (HasRoomFor types v (row ∷ rest) → FindsNoRoom types v row → ⊥) × (HasMemoryFor types v (row ∷ rest) → FindsNoMemory types v row → ⊥)

-- Once the first is linked there is room and memory for the others.
abbrev pub RoomLasts : Type 0
RoomLasts =
    (d : Database) (v w : VolumeState) (h y a : ℕ) (row : Segment) (rest : List Segment) → IsLinked d v h y row a w
    → (HasRoomFor d.types v (row ∷ rest) → HasRoomFor d.types w rest)
    × (v.room ≤ w.room + 1 → HasMemoryFor d.types v (row ∷ rest) → HasMemoryFor d.types w rest)

-- ---- a root, and rows below it

-- the blocks that the index needs for the entry of a new root of the key
abbrev pub blocks_for_entry : Database → VolumeState → List ℕ → ℕ
blocks_for_entry d v key = blocks_needed (root_key_length d.types) v key

-- There is room for so many rows, which take so many bytes together, of which the first is a root of the key, and for the root's entry: the
-- index may have a level more, the blocks that the entry needs are to spare, and beside them one for each row, or one hole is as large as all
-- rows. A hole counts only where the rows take no block that the entry needs: the volume keeps nothing free, or the entry needs none.
abbrev pub HasRootRoom : Database → List ℕ → ℕ → ℕ → VolumeState → Type 0
HasRootRoom d key count total v =
    (IsHighest v → ⊥)
    × ((count + blocks_for_entry d v key ≤ spare v) ⊎ (HasHole v total × (blocks_for_entry d v key ≤ spare v) × (IsPlain v ⊎ (blocks_for_entry d v key ≡ 0))))

-- there is room for a root of the key, the rows below it, and the root's entry
abbrev pub HasRootRoomFor : Database → VolumeState → List ℕ → List Segment → Type 0
HasRootRoomFor d v key rows = HasRootRoom d key (length rows) (stored_sizes d.types rows) v

-- Memory is reserved for a root, the rows below it, and the root's entry: for as many blocks as all may need.
abbrev pub HasRootMemoryFor : VolumeState → List Segment → Type 0
HasRootMemoryFor v rows = length rows + entry_growth v ≤ v.room

-- Where there is room and memory for a root and rows below it, the root finds both.
abbrev pub FirstRootsFindRoom : Type 0
FirstRootsFindRoom =
    (d : Database) (v : VolumeState) (key : List ℕ) (row : Segment) (rest : List Segment)
    → (HasRootRoomFor d v key (row ∷ rest) → FindsNoRoom d.types v row → ⊥) × (HasRootMemoryFor v (row ∷ rest) → FindsNoMemory d.types v row → ⊥)

-- Once the root is linked, its entry finds both, in a volume of version 2 or later.
abbrev pub RootEntriesFindRoom : Type 0
RootEntriesFindRoom =
    (d : Database) (v w : VolumeState) (f : Forest Placed) (key : List ℕ) (y a : ℕ) (row : Segment) (rest : List Segment)
    → HoldsPlaced d v f → IsLater v → IsLinked d v 0 y row a w
    → (HasRootRoomFor d v key (row ∷ rest) → (IsHighest w → ⊥) × (blocks_for_entry d w key ≤ spare w))
    × (v.room ≤ w.room + 1 → HasRootMemoryFor v (row ∷ rest) → entry_growth w ≤ w.room)

-- Once the root is linked and its entry is in the index, there is room and memory for the rows below.
abbrev pub RootRoomLasts : Type 0
RootRoomLasts =
    (d : Database) (v w x : VolumeState) (f : Forest Placed) (es : List Entry) (more : ℕ) (key : List ℕ) (y a : ℕ) (row : Segment) (rest : List Segment)
    → HoldsPlaced d v f → IsLinked d v 0 y row a w → IsEntered d w es more x
    → (spare w ≤ spare x + blocks_for_entry d w key → HasRootRoomFor d v key (row ∷ rest) → HasRoomFor d.types x rest)
    × (v.room ≤ w.room + 1 → w.room ≤ x.room + entry_growth w → HasRootMemoryFor v (row ∷ rest) → HasMemoryFor d.types x rest)

-- ---- rows that get other bytes

-- Once a row of a path got other bytes there is room and memory for the others; a row that stays where it stands takes none.
abbrev pub SetRowsLeaveRoom : Type 0
SetRowsLeaveRoom =
    (d : Database) (v w : VolumeState) (path : List ℕ) (row : Segment) (to : ℕ) (rest : List Segment) → IsRowSet d v path row to w
    → (HasRoomFor d.types v (row ∷ rest) → HasRoomFor d.types w rest)
    × (v.room ≤ w.room + 1 → HasMemoryFor d.types v (row ∷ rest) → HasMemoryFor d.types w rest)
    × (to ≡ tip path → HasRoomFor d.types v rest → HasRoomFor d.types w rest)
    × (to ≡ tip path → v.room ≤ w.room → HasMemoryFor d.types v rest → HasMemoryFor d.types w rest)

-- An index in which no entry more is needs none.
abbrev pub SameEntriesLeaveRoom : Type 0
SameEntriesLeaveRoom =
    (d : Database) (v w : VolumeState) (es : List Entry) (rows : List Segment) → IsEntered d v es 0 w → spare w ≡ spare v → w.room ≡ v.room
    → (HasRoomFor d.types v rows → HasRoomFor d.types w rows) × (HasMemoryFor d.types v rows → HasMemoryFor d.types w rows)

-- ---- a call that only looks

-- Two volumes have one image, where one came from the other by calls that only look, or that only reserve memory.
pub record HaveOneImage (v w : VolumeState) : Type 0 where
  pub image : w.image ≡ v.image
  pub size : w.size ≡ v.size
  pub sizes : w.sizes ≡ v.sizes
  pub plain : IsPlain v → IsPlain w

-- Volumes of one image hold the same forest, and have the same room.
abbrev pub OneImageIsOneVolume : Type 0
OneImageIsOneVolume =
    (d : Database) (v w : VolumeState) → HaveOneImage v w
    → ((f : Forest Placed) → HoldsPlaced d v f → HoldsPlaced d w f)
    × ((rows : List Segment) → HasRoomFor d.types v rows → HasRoomFor d.types w rows)
    × ((key : List ℕ) (rows : List Segment) → HasRootRoomFor d v key rows → HasRootRoomFor d w key rows)
