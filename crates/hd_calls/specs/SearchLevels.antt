-- The rows of a path by their levels.
use Rattle.std.specs.Prelude.{◌≡◌, ◌↔◌, ℕ, ◌-◌, ◌<◌, ◌≤◌, List, [], ◌∷◌, ◌++◌, length, filter_map, cond, Option, Some, None, slice_get}
use Rattle.hd_dbd.specs.Types.{SegmentType}
use Rattle.hd_dbd.specs.Hierarchy.{level_of}
use Rattle.hd_dbd.specs.Segment.{Segment}
use Rattle.hd_dbd.specs.Paths.{row_at, level_at, path_of, end_of}
use Rattle.hd_calls.specs.Ssas.{Ssa, target_code, above_target}
use Rattle.hd_calls.specs.Satisfies.{on_path}
use Rattle.hd_calls.specs.Gets.{path_rows}
use Rattle.hd_calls.specs.Admits.{is_on_way, AreRowsOf, IsSearch}

-- the row of a level, from 1, on the path of row i
abbrev pub path_row : List SegmentType → List Segment → ℕ → ℕ → Option ℕ
path_row types rows i level = slice_get (path_of types rows i) (level - 1)

-- A path has as many rows as its last one's level says, and a row is on it, at its own level, just where the last is in its span.
abbrev pub PathsAreByLevel : Type 0
PathsAreByLevel =
    (types : List SegmentType) (rows : List Segment) (i : ℕ) → AreRowsOf types rows → i < length rows
    → (length (path_of types rows i) ≡ level_at types rows i)
    × ((k : ℕ) → k ≤ i → (i < end_of types rows k) ↔ (path_row types rows i (level_at types rows k) ≡ Some k))

-- The row of a type on a path is the one of the type's level, where the type is on the way to the last row's; else there is none.
abbrev pub TypesAreByLevel : Type 0
TypesAreByLevel =
    (types : List SegmentType) (rows : List Segment) (code i : ℕ) → AreRowsOf types rows → i < length rows
    → on_path types rows code i ≡ cond (is_on_way types (row_at rows i).code code) (path_row types rows i (level_of types code)) None

-- The rows that a get returns and holds, by the levels of their types.
abbrev pub PathRowsAreByLevel : Type 0
PathRowsAreByLevel =
    (types : List SegmentType) (rows : List Segment) (ssas : List Ssa) (i : ℕ) → IsSearch types rows ssas → i < length rows
    → (row_at rows i).code ≡ target_code ssas
    → path_rows types rows ssas i
    ≡ filter_map (λ a. cond a.commands.path (path_row types rows i (level_of types a.code)) None) (above_target ssas) ++ i ∷ []
