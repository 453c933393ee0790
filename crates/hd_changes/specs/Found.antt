-- What the index answers, told of the rows of the forest that a volume holds.
use Rattle.std.specs.Prelude.{◌≡◌, ℕ, ◌<◌, List, [], ◌∷◌, length, Some, None, is_some, true, false, IsTrue, bytes_eq}
use Rattle.hd_dbd.specs.declared.hierarchy.FreeSpace.{FreeSpace}
use Rattle.hd_dbd.specs.Types.{SegmentType}
use Rattle.hd_dbd.specs.Hierarchy.{Database}
use Rattle.hd_dbd.specs.DatabaseRules.{well_formed}
use Rattle.hd_dbd.specs.Segment.{Segment}
use Rattle.hd_dbd.specs.Rows.{row_fits, key_of}
use Rattle.hd_dbd.specs.Paths.{level_at}
use Rattle.hd_dbd.specs.Forest.{Forest}
use Rattle.hd_volume.specs.Volumes.{VolumeState}
use Rattle.hd_volume.specs.Indexes.{root_key_length, key_less}
use Rattle.hd_links.specs.Placed.{Placed}
use Rattle.hd_links.specs.Steps.{rows_of, address_at, path_at}
use Rattle.hd_image.specs.Holding.{HoldsPlaced}
use Rattle.hd_index.specs.Maps.{address_of, address_from}
use Rattle.hd_index.specs.Changes.{entries_for}
use Rattle.hd_index.specs.declared.search.RootFrom.{RootFrom}
use Rattle.hd_changes.specs.Roots.{is_root, key_at, is_root_with, is_root_from, first_row, address_of_first}

-- Roots are the rows at level 1.
abbrev pub RootsAreOfTheFirstType : Type 0
RootsAreOfTheFirstType =
    (d : Database) (v : VolumeState) (f : Forest Placed) (i : ℕ) → HoldsPlaced d v f → i < length (rows_of f)
    → (is_root (rows_of f) i ≡ true → level_at d.types (rows_of f) i ≡ 1) × (level_at d.types (rows_of f) i ≡ 1 → is_root (rows_of f) i ≡ true)

-- The path of a root is its address alone.
abbrev pub RootsStandAlone : Type 0
RootsStandAlone =
    (d : Database) (v : VolumeState) (f : Forest Placed) (i : ℕ) → HoldsPlaced d v f → i < length (rows_of f) → is_root (rows_of f) i ≡ true
    → path_at d.types f i ≡ address_at f i ∷ []

-- The key of a root's bytes has the length of the index's keys.
abbrev pub RootKeysAreWhole : Type 0
RootKeysAreWhole =
    (block_size : ℕ) (frspc : FreeSpace) (types : List SegmentType) (bytes : List ℕ) → IsTrue (well_formed block_size frspc types)
    → row_fits types (record { code = 1; bytes = bytes }) ≡ true → length (key_of types (record { code = 1; bytes = bytes })) ≡ root_key_length types

-- Of two roots the earlier has the lesser key.
abbrev pub RootsAscend : Type 0
RootsAscend =
    (d : Database) (v : VolumeState) (f : Forest Placed) (i j : ℕ) → HoldsPlaced d v f → is_root (rows_of f) i ≡ true → is_root (rows_of f) j ≡ true
    → i < j → j < length (rows_of f) → key_less (key_at d.types (rows_of f) i) (key_at d.types (rows_of f) j) ≡ true

-- What the index answers for a key is the address of the root with the key; from a key on, that of the first root whose key is not
-- below it.
abbrev pub IndexAnswersRoots : Type 0
IndexAnswersRoots =
    (d : Database) (v : VolumeState) (f : Forest Placed) (key : List ℕ) → HoldsPlaced d v f
    → (address_of key (entries_for d v) ≡ address_of_first f (is_root_with d.types (rows_of f) key))
    × (address_from key (entries_for d v) ≡ address_of_first f (is_root_from d.types (rows_of f) key))

-- The first root whose key is not below a key has that key just where the index has it.
abbrev pub IndexTellsOfKeys : Type 0
IndexTellsOfKeys =
    (d : Database) (v : VolumeState) (f : Forest Placed) (key : List ℕ) (i : ℕ) → HoldsPlaced d v f → first_row (rows_of f) (is_root_from d.types (rows_of f) key) ≡ Some i
    → is_some (address_of key (entries_for d v)) ≡ bytes_eq (key_at d.types (rows_of f) i) key

-- The row is the first root of a forest whose key is not below a key, and this is told of it: its address, and whether its key is that one.
pub record IsToldRoot (types : List SegmentType) (f : Forest Placed) (key : List ℕ) (root : RootFrom) : Type 0 where
  pub row : ℕ
  pub is_first : first_row (rows_of f) (is_root_from types (rows_of f) key) ≡ Some row
  pub at : address_at f row ≡ root.address
  pub equal : root.is_equal ≡ bytes_eq (key_at types (rows_of f) row) key

-- So is the root of which the index tells.
abbrev pub IndexTellsOfRoots : Type 0
IndexTellsOfRoots =
    (d : Database) (v : VolumeState) (f : Forest Placed) (key : List ℕ) (root : RootFrom) → HoldsPlaced d v f → address_from key (entries_for d v) ≡ Some root.address
    → root.is_equal ≡ is_some (address_of key (entries_for d v)) → IsToldRoot d.types f key root

-- Of the first n rows all roots have lesser keys.
abbrev pub AreRootsBelow : List SegmentType → List Segment → List ℕ → ℕ → Type 0
AreRootsBelow types rows key n = (j : ℕ) → j < n → is_root rows j ≡ true → key_less (key_at types rows j) key ≡ true

-- The first root from a key on is a root whose key is not below it, and all roots before it have lesser keys; where there is none,
-- all roots have.
abbrev pub FirstRootsFollowLesser : Type 0
FirstRootsFollowLesser =
    (types : List SegmentType) (rows : List Segment) (key : List ℕ)
    → ((i : ℕ) → first_row rows (is_root_from types rows key) ≡ Some i
    → (i < length rows) × (is_root rows i ≡ true) × (key_less (key_at types rows i) key ≡ false) × AreRootsBelow types rows key i)
    × (first_row rows (is_root_from types rows key) ≡ None → AreRootsBelow types rows key (length rows))
