-- The parent of a row that is put in, by its path.
use Rattle.std.specs.Prelude.{◌≡◌, ℕ, List, Option, None, cond, option_map}
use Rattle.std.specs.List.{list_all}
use Rattle.hd_dbd.specs.Types.{SegmentType}
use Rattle.hd_dbd.specs.Hierarchy.{Database}
use Rattle.hd_dbd.specs.Segment.{Segment}
use Rattle.hd_dbd.specs.Positions.{Position}
use Rattle.hd_dbd.specs.Forest.{Forest}
use Rattle.hd_volume.specs.Volumes.{VolumeState}
use Rattle.hd_links.specs.Placed.{Placed}
use Rattle.hd_links.specs.Steps.{rows_of, path_at}
use Rattle.hd_position.specs.Kept.{Kept}
use Rattle.hd_calls.specs.Ssas.{Ssa}
use Rattle.hd_calls.specs.Satisfies.{on_path_at}
use Rattle.hd_calls.specs.Places.{is_plain, insert_parent}
use Rattle.hd_get.specs.Gets.{IsPositionIn}

-- the row of the parent's type on the path where a PCB stands, where the SSAs above name no more than types
abbrev pub standing_parent : List SegmentType → List Segment → Option ℕ → List Ssa → ℕ → Option ℕ
standing_parent types rows standing above code = cond (list_all is_plain above) (on_path_at types rows code standing) None

-- wherever what is kept stands for a position, the path is that of the parent on the path where the PCB stands, if there is one
abbrev pub IsStandingParent : Database → VolumeState → List Ssa → ℕ → Kept → Option (List ℕ) → Type 0
IsStandingParent d v above code k path =
    (f : Forest Placed) (q : Position) → IsPositionIn d v f k q
    → path ≡ option_map (λ i. path_at d.types f i) (standing_parent d.types (rows_of f) q.standing above code)

-- wherever what is kept stands for a position, the path is that of the parent of a row that is inserted below the type, if there is one
abbrev pub IsInsertParent : Database → VolumeState → List Ssa → ℕ → Kept → Option (List ℕ) → Type 0
IsInsertParent d v above code k path =
    (f : Forest Placed) (q : Position) → IsPositionIn d v f k q
    → path ≡ option_map (λ i. path_at d.types f i) (insert_parent d.types (rows_of f) q.standing above code)
