-- Where F lets a search begin.
use Rattle.std.specs.Prelude.{◌≡◌, ℕ, List, true, Bool, false, nat_le, nat_lt, cond, Option, Some, None, is_some, IfSome, option_map, option_and_then}
use Rattle.std.specs.Option.{option_map_or}
use Rattle.hd_dbd.specs.Types.{SegmentType}
use Rattle.hd_dbd.specs.Hierarchy.{Database, parent_of, level_of}
use Rattle.hd_dbd.specs.Segment.{Segment}
use Rattle.hd_dbd.specs.Paths.{row_at}
use Rattle.hd_dbd.specs.Positions.{Position}
use Rattle.hd_dbd.specs.Forest.{Forest}
use Rattle.hd_volume.specs.Volumes.{VolumeState}
use Rattle.hd_links.specs.Links.{is_child_type}
use Rattle.hd_links.specs.Placed.{Placed}
use Rattle.hd_links.specs.Steps.{rows_of, path_at}
use Rattle.hd_position.specs.Kept.{Kept, path_passed, row_on}
use Rattle.hd_calls.specs.Ssas.{Ssa}
use Rattle.hd_calls.specs.Satisfies.{on_path_at}
use Rattle.hd_calls.specs.declared.call.GetKind.TheVariants.{NextInParent}
use Rattle.hd_calls.specs.Gets.{first_child, first_occurrence, behind_parent, search_end}
use Rattle.hd_calls.specs.SearchStarts.{topmost_first}
use Rattle.hd_image.specs.Records.{links_of}
use Rattle.hd_get.specs.Searches.{LeadsWithin}
use Rattle.hd_get.specs.Starts.{IsKeptIn}

-- the first occurrence of an argument with F, where it is one of the rows passed
abbrev pub first_passed : List SegmentType → List Segment → Position → Ssa → Option ℕ
first_passed types rows q a = option_and_then (λ j. cond (nat_lt j q.passed) (Some j) None) (first_occurrence types rows q.standing a)

-- the row to which F lowers the start of a search, if it does
abbrev pub lowered_to : List SegmentType → List Segment → Position → List Ssa → Option ℕ
lowered_to types rows q ssas = option_and_then (λ a. first_passed types rows q a) (topmost_first ssas)

-- the level of the row of a type on the path where a PCB stands
abbrev pub type_level : List SegmentType → List Segment → Position → ℕ → Option ℕ
type_level types rows q code = option_map (λ r. level_of types code) (on_path_at types rows code q.standing)

-- the level of the row of a type's parent type on the path where a PCB stands
abbrev pub parent_level : List SegmentType → List Segment → Position → ℕ → Option ℕ
parent_level types rows q code = option_and_then (λ p. type_level types rows q p) (parent_of types code)

-- the row of a level on the path of the last row passed is of a type or of a later one
abbrev pub is_level_from : List SegmentType → List Segment → Position → ℕ → ℕ → Bool
is_level_from types rows q level code =
    option_map_or (λ x. nat_le code (row_at rows x).code) (row_on (path_passed types rows q.passed) level) false

-- What GNP begins with where it begins behind the parentage row: that one's address and a path, just where there is such a row.
pub record IsStartBehind (d : Database) (v : VolumeState) (f : Forest Placed) (q : Position) (start : Option (ℕ × List ℕ)) : Type 0 where
  pub parent : is_some start ≡ is_some q.parent
  pub leads : IfSome start
      (λ s. LeadsWithin d.types (links_of d.types v) f s.0 (search_end d.types (rows_of f) q NextInParent) s.1 (behind_parent q))

-- ---- the words of the contracts

-- wherever what is kept stands for a position, the answer is the level of the row of the type on the path where the PCB stands
abbrev pub IsTypeLevel : Database → VolumeState → ℕ → Kept → Option ℕ → Type 0
IsTypeLevel d v code k o = (f : Forest Placed) (q : Position) → IsKeptIn d v f k q → o ≡ type_level d.types (rows_of f) q code

-- wherever what is kept stands for a position, the path is that of the row of the type on the path where the PCB stands, if there is one
abbrev pub IsTypePath : Database → VolumeState → ℕ → Kept → Option (List ℕ) → Type 0
IsTypePath d v code k o =
    (f : Forest Placed) (q : Position) → IsKeptIn d v f k q
    → o ≡ option_map (λ j. path_at d.types f j) (on_path_at d.types (rows_of f) code q.standing)

-- wherever what is kept stands for a position, the answer is the level of the row of the type's parent type where the PCB stands
abbrev pub IsParentLevel : Database → VolumeState → ℕ → Kept → Option ℕ → Type 0
IsParentLevel d v code k o = (f : Forest Placed) (q : Position) → IsKeptIn d v f k q → o ≡ parent_level d.types (rows_of f) q code

-- wherever what is kept stands for a position, the answer says whether the row of the level is of the type or of a later one
abbrev pub IsLevelFrom : Database → VolumeState → ℕ → ℕ → Kept → Bool → Type 0
IsLevelFrom d v level code k r = (f : Forest Placed) (q : Position) → IsKeptIn d v f k q → r ≡ is_level_from d.types (rows_of f) q level code

-- wherever what is kept stands for a position, and the type is a child type of the row of the level, the path is that of the row's first
-- child of the type, if there is one
abbrev pub IsChildBelow : Database → VolumeState → ℕ → ℕ → Kept → Option (List ℕ) → Type 0
IsChildBelow d v level code k o =
    (f : Forest Placed) (q : Position) (r : ℕ) → IsKeptIn d v f k q → row_on (path_passed d.types (rows_of f) q.passed) level ≡ Some r
    → is_child_type d.types (row_at (rows_of f) r).code code ≡ true
    → o ≡ option_map (λ j. path_at d.types f j) (first_child d.types (rows_of f) code r)

-- wherever what is kept stands for a position, the path is that of the argument's first occurrence, if that is one of the rows passed
abbrev pub IsFirstPassed : Database → VolumeState → Ssa → Kept → Option (List ℕ) → Type 0
IsFirstPassed d v a k o =
    (f : Forest Placed) (q : Position) → IsKeptIn d v f k q → o ≡ option_map (λ j. path_at d.types f j) (first_passed d.types (rows_of f) q a)

-- wherever what is kept stands for a position, the path is that of the row to which F lowers the start, if it does
abbrev pub IsLoweredTo : Database → VolumeState → List Ssa → Kept → Option (List ℕ) → Type 0
IsLoweredTo d v ssas k o =
    (f : Forest Placed) (q : Position) → IsKeptIn d v f k q → o ≡ option_map (λ j. path_at d.types f j) (lowered_to d.types (rows_of f) q ssas)

-- wherever what is kept stands for a position, GNP begins so behind its parentage row
abbrev pub StartsBehind : Database → VolumeState → Kept → Option (ℕ × List ℕ) → Type 0
StartsBehind d v k start = (f : Forest Placed) (q : Position) → IsKeptIn d v f k q → IsStartBehind d v f q start
