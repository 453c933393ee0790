-- Laws of the definitions, for every well-formed list of types.
use Rattle.std.specs.Prelude.{◌≡◌, ◌↔◌, ℕ, ◌+◌, ◌<◌, List, [], ◌∷◌, ◌++◌, length, true, Some, None, IsTrue, option_map}
use Rattle.std.specs.Option.{option_map_or}
use Rattle.hd_dbd.specs.declared.hierarchy.FreeSpace.{FreeSpace}
use Rattle.hd_dbd.specs.Types.{SegmentType}
use Rattle.hd_dbd.specs.Segment.{Segment}
use Rattle.hd_dbd.specs.Hierarchy.{type_of, parent_of, level_of}
use Rattle.hd_dbd.specs.DatabaseRules.{well_formed}
use Rattle.hd_dbd.specs.Rows.{valid, row_fits, siblings_in_order, twins_in_order}
use Rattle.hd_dbd.specs.Paths.{row_at, parent_row, path_of, have_one_parent, is_twin}
use Rattle.hd_dbd.specs.Forest.{Forest, sequence, forest_fits}
use Rattle.hd_dbd.specs.Loads.{last_path, load_fault}

-- The level of a type is one more than its parent's, and the root's is 1.
abbrev pub LevelsFollowParents : Type 0
LevelsFollowParents =
    (block_size : ℕ) (frspc : FreeSpace) (types : List SegmentType) (c : ℕ) (t : SegmentType) → IsTrue (well_formed block_size frspc types)
    → type_of types c ≡ Some t → level_of types c ≡ option_map_or (λ p. level_of types p) t.parent 0 + 1

-- The hierarchic sequence of a forest of the database is a valid list of rows.
abbrev pub SequencesAreValid : Type 0
SequencesAreValid =
    (block_size : ℕ) (frspc : FreeSpace) (types : List SegmentType) (f : Forest Segment) → IsTrue (well_formed block_size frspc types)
    → forest_fits types f ≡ true → valid types (sequence f) ≡ true

-- Each valid list of rows is the hierarchic sequence of exactly one forest of the database.
abbrev pub ValidRowsAreOneForest : Type 0
ValidRowsAreOneForest =
    (block_size : ℕ) (frspc : FreeSpace) (types : List SegmentType) (rows : List Segment) → IsTrue (well_formed block_size frspc types)
    → valid types rows ≡ true
    → (f : Forest Segment) × (forest_fits types f ≡ true) × (sequence f ≡ rows)
    × ((g : Forest Segment) → forest_fits types g ≡ true → sequence g ≡ rows → g ≡ f)

-- Of any two twins in a valid list the earlier is in key order before the later.
abbrev pub TwinsAscend : Type 0
TwinsAscend =
    (block_size : ℕ) (frspc : FreeSpace) (types : List SegmentType) (rows : List Segment) (i j : ℕ) → IsTrue (well_formed block_size frspc types)
    → valid types rows ≡ true → i < j → j < length rows → is_twin types rows i j ≡ true
    → twins_in_order types (row_at rows i) (row_at rows j) ≡ true

-- Rows in hierarchic sequence, told without a walk. Each row has a type with its length; the nearest earlier row of lesser
-- level is of its type's parent type, and a root has none; and of any two rows of one parent, or roots, the later has the
-- greater code, or is a twin in key order.
pub record IsInSequence (types : List SegmentType) (rows : List Segment) : Type 0 where
  pub fit : (i : ℕ) → i < length rows → row_fits types (row_at rows i) ≡ true
  pub parents : (i : ℕ) → i < length rows → option_map (λ j. (row_at rows j).code) (parent_row types rows i) ≡ parent_of types (row_at rows i).code
  pub siblings : (i j : ℕ) → i < j → j < length rows → have_one_parent types rows i j ≡ true → siblings_in_order types (row_at rows i) (row_at rows j) ≡ true

-- The valid lists are just those in hierarchic sequence.
abbrev pub ValidRowsAreInSequence : Type 0
ValidRowsAreInSequence =
    (block_size : ℕ) (frspc : FreeSpace) (types : List SegmentType) (rows : List Segment) → IsTrue (well_formed block_size frspc types)
    → (valid types rows ≡ true) ↔ IsInSequence types rows

-- The path of a row is that of its parent, and the row.
abbrev pub PathsFollowParents : Type 0
PathsFollowParents =
    (types : List SegmentType) (rows : List Segment) (i : ℕ)
    → path_of types rows i ≡ option_map_or (λ p. path_of types rows p) (parent_row types rows i) [] ++ i ∷ []

-- A row of its type's length may be loaded behind valid rows just where they are valid with it.
abbrev pub LoadedRowsAreValid : Type 0
LoadedRowsAreValid =
    (block_size : ℕ) (frspc : FreeSpace) (types : List SegmentType) (rows : List Segment) (new : Segment) → IsTrue (well_formed block_size frspc types)
    → valid types rows ≡ true → row_fits types new ≡ true
    → (load_fault types (last_path types rows) new ≡ None) ↔ (valid types (rows ++ new ∷ []) ≡ true)
