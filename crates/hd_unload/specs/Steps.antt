-- What loading one row does.
use Rattle.std.specs.Prelude.{◌≡◌, ℕ, ◌-◌, List, [], ◌∷◌, ◌++◌, length, take, None, IsTrue}
use Rattle.hd_dbd.specs.declared.answer.Refused.{Refused}
use Rattle.hd_dbd.specs.declared.answer.Refused.TheVariants.{Full}
use Rattle.hd_dbd.specs.Hierarchy.{Database}
use Rattle.hd_dbd.specs.Segment.{Segment}
use Rattle.hd_dbd.specs.Rows.{level, key_of}
use Rattle.hd_dbd.specs.Loads.{last_path, load_fault}
use Rattle.hd_dbd.specs.Forest.{Forest}
use Rattle.hd_volume.specs.Volumes.{VolumeState}
use Rattle.hd_volume.specs.Creates.{IsCreated}
use Rattle.hd_links.specs.Placed.{Placed}
use Rattle.hd_links.specs.Steps.{rows_of}
use Rattle.hd_links.specs.LastRows.{segments_of, last_on, parent_on_path, twin_on_path}
use Rattle.hd_image.specs.Holding.{HoldsPlaced}
use Rattle.hd_index.specs.Changes.{IsLater}
use Rattle.hd_changes.specs.Rooms.{HasRootRoomFor}
use Rattle.hd_changes.specs.VolumeImages.{LacksRoomForRow}
use Rattle.hd_unload.specs.Loads.{IsLoadStep, IsLoad}
use Rattle.hd_unload.specs.Streams.{head_bytes, Spells, IsStreamOf}

-- The volume, of version 2 or later, holds these rows, and this is the path of the last.
pub record IsLoadedTo (d : Database) (rows : List Segment) (path : List Placed) (v : VolumeState) : Type 0 where
  pub later : IsLater v
  pub placed : Forest Placed
  pub holds : HoldsPlaced d v placed
  pub rows_are : rows_of placed ≡ rows
  pub last : last_on placed ≡ path

-- The row was loaded behind the last of these rows, whose path this was, and the path is now that of the row.
pub record IsRowLoaded (d : Database) (old : VolumeState) (rows : List Segment) (row : Segment) (path : List Placed) (new : VolumeState) : Type 0 where
  pub loaded : IsLoadedTo d (rows ++ row ∷ []) path new
  pub step : IsLoadStep d old row new

-- a row of a code and its bytes
abbrev pub row_of : ℕ → List ℕ → Segment
row_of code bytes = record { code = code; bytes = bytes }

-- A root may be loaded behind the rows that the volume holds, behind this root or as the first.
abbrev pub CanLoadRoot : Database → VolumeState → ℕ → Segment → Type 0
CanLoadRoot d v after row =
    (rows : List Segment) × (path : List Placed) × IsLoadedTo d rows path v × (load_fault d.types (segments_of path) row ≡ None)
    × (after ≡ twin_on_path d.types path row)

-- A row may be loaded behind the rows that the volume holds, below this parent and behind this twin or as the first.
abbrev pub CanLoad : Database → VolumeState → ℕ → ℕ → Segment → Type 0
CanLoad d v parent after row =
    (rows : List Segment) × (path : List Placed) × IsLoadedTo d rows path v × (load_fault d.types (segments_of path) row ≡ None)
    × (parent ≡ parent_on_path d.types path row) × (after ≡ twin_on_path d.types path row)

-- the volume has room for a root more, and for the entry of its key
abbrev pub HasRootRoom : Database → VolumeState → Segment → Type 0
HasRootRoom d v row = HasRootRoomFor d v (key_of d.types row) (row ∷ [])

-- The root was loaded at an address, wherever it could be.
abbrev pub IsRootLoadedAt : Database → VolumeState → ℕ → Segment → ℕ → VolumeState → Type 0
IsRootLoadedAt d old after row a new =
    (rows : List Segment) (path : List Placed) → IsLoadedTo d rows path old → load_fault d.types (segments_of path) row ≡ None
    → after ≡ twin_on_path d.types path row → IsRowLoaded d old rows row (record { address = a; segment = row } ∷ []) new

-- The row was loaded at an address, wherever it could be: its path is that of its parent, and the row.
abbrev pub IsLoadedAt : Database → VolumeState → ℕ → ℕ → Segment → ℕ → VolumeState → Type 0
IsLoadedAt d old parent after row a new =
    (rows : List Segment) (path : List Placed) → IsLoadedTo d rows path old → load_fault d.types (segments_of path) row ≡ None
    → parent ≡ parent_on_path d.types path row → after ≡ twin_on_path d.types path row
    → IsRowLoaded d old rows row (take (level d.types row - 1) path ++ record { address = a; segment = row } ∷ []) new

-- Wherever the volume held rows up to this path, the row was loaded behind them, and this is the path now.
abbrev pub IsLoadedBehind : Database → VolumeState → List Placed → Segment → List Placed → VolumeState → Type 0
IsLoadedBehind d old path row path_then new =
    (rows : List Segment) → IsLoadedTo d rows path old → IsRowLoaded d old rows row path_then new

-- A load is refused as full only where the volume lacks room for the row.
abbrev pub IsFullFor : Database → VolumeState → Segment → Refused → Type 0
IsFullFor d v row e = e ≡ Full → IsTrue v.is_sound → LacksRoomForRow d v row

-- So many records of the stream were loaded into a new volume of a largest count: the rest of the stream is left, and this is the
-- path of the last row.
pub record IsReadTo (d : Database) (stream : List ℕ) (largest count : ℕ) (left : List ℕ) (path : List Placed) (v : VolumeState) : Type 0 where
  pub rows : List Segment
  pub counted : length rows ≡ count
  pub spells : Spells d stream rows left
  pub last : segments_of path ≡ last_path d.types rows
  pub load : IsTrue v.is_sound → IsLoad d largest rows v
  pub loaded : IsTrue v.is_sound → IsLoadedTo d rows path v

-- Something is so for each stream that has these records behind its head, and each largest count of which the volume is new.
abbrev pub ForItsStreams : Database → List ℕ → VolumeState → (List ℕ → ℕ → Type 0) → Type 0
ForItsStreams d records v P =
    (stream : List ℕ) → stream ≡ head_bytes d ++ records → (largest : ℕ) → (IsTrue v.is_sound → IsCreated d.name d.block_size largest v) → P stream largest

-- All records of the stream were loaded, as many as its end says.
pub record IsLoadedAll (d : Database) (stream : List ℕ) (largest count : ℕ) (v : VolumeState) : Type 0 where
  pub rows : List Segment
  pub counted : count ≡ length rows
  pub stream_of : IsStreamOf d stream rows
  pub load : IsTrue v.is_sound → IsLoad d largest rows v
