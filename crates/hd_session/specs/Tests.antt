-- The tests of a call over a volume.
use Rattle.std.specs.Prelude.{◌≡◌, ℕ, List, Bool, ◌||◌, map, Option, Some, None, Result, Ok, Err, option_map, length}
use Rattle.std.specs.List.{list_all}
use Rattle.hd_dbd.specs.Types.{View}
use Rattle.hd_dbd.specs.Hierarchy.{Database}
use Rattle.hd_dbd.specs.declared.answer.Status.{Status}
use Rattle.hd_dbd.specs.Segment.{Segment}
use Rattle.hd_dbd.specs.Paths.{row_at}
use Rattle.hd_dbd.specs.Positions.{Position}
use Rattle.hd_dbd.specs.Forest.{Forest}
use Rattle.hd_dbd.specs.Views.{Setting, may}
use Rattle.hd_calls.specs.declared.call.Function.{Function}
use Rattle.hd_dbd.specs.Letters.{gives_replace}
use Rattle.hd_calls.specs.Ssas.{Ssa}
use Rattle.hd_calls.specs.Steps.{AcceptedCall, is_excepted, last_tests}
use Rattle.hd_volume.specs.Volumes.{VolumeState}
use Rattle.hd_links.specs.Placed.{Placed}
use Rattle.hd_links.specs.Steps.{rows_of}
use Rattle.hd_position.specs.Kept.{Kept}
use Rattle.hd_get.specs.Gets.{IsPositionIn}
use Rattle.hd_update.specs.declared.held.HeldRow.{HeldRow}

-- ---- by the codes of rows

-- rows of these numbers, as they are held at some addresses
abbrev pub held_at : (ℕ → ℕ) → List Segment → List ℕ → List HeldRow
held_at places rows numbers = map (λ i. record { address = places i; code = (row_at rows i).code; length = length (row_at rows i).bytes }) numbers

-- these are the rows of the numbers
abbrev pub AreHeldOf : List Segment → List ℕ → List HeldRow → Type 0
AreHeldOf rows numbers held = (places : ℕ → ℕ) × (held ≡ held_at places rows numbers)

-- every held row may be replaced, or is excepted by N
abbrev pub all_replaceable : Setting → List Ssa → List HeldRow → Bool
all_replaceable s ssas held = list_all (λ h. is_excepted ssas h.code || may s gives_replace h.code) held

-- the parentage row of a position, if it has one, is of this type
abbrev pub IsParentOf : List Segment → Position → Option ℕ → Type 0
IsParentOf rows q code = code ≡ option_map (λ i. (row_at rows i).code) q.parent

-- wherever what is kept stands for a position, the parentage row, if there is one, is of this type
abbrev pub IsParentCode : Database → VolumeState → Kept → Option ℕ → Type 0
IsParentCode d v k code =
    (f : Forest Placed) (q : Position) → IsPositionIn d v f k q → IsParentOf (rows_of f) q code

-- ---- the tests

-- an accepted call, or the status of the first test that failed
abbrev pub tested : Function → List Ssa → Option Status → Result AcceptedCall Status
tested function ssas None = Ok (record { function = function; ssas = ssas })
tested function ssas (Some status) = Err status

-- the last tests of a call come to this
abbrev pub AreLastTests : Setting → List Segment → Position → Function → List Ssa → Option Status → Type 0
AreLastTests s rows q function ssas failed = last_tests s rows q function ssas ≡ tested function ssas failed

-- Wherever what is kept stands for a position, the last tests of the call come to this.
abbrev pub IsLastTest : Database → VolumeState → View → Kept → Function → List Ssa → Option Status → Type 0
IsLastTest d v pcb k function ssas failed =
    (f : Forest Placed) (q : Position) → IsPositionIn d v f k q
    → AreLastTests (record { types = d.types; pcb = pcb }) (rows_of f) q function ssas failed
