-- What a call of a session comes to.
use Rattle.std.specs.Prelude.{◌≡◌, ◌≢◌, IsTrue, ℕ, ◌-◌, List, [], ◌∷◌, length, cond, Some, slice_index, ◌≤◌}
use Rattle.hd_dbd.specs.Types.{SegmentType, View}
use Rattle.hd_dbd.specs.Hierarchy.{Database, level_of}
use Rattle.hd_dbd.specs.Positions.{Position}
use Rattle.hd_dbd.specs.Calls.{CallText, Reply, bare, row_reply}
use Rattle.hd_dbd.specs.declared.answer.Status.TheVariants.{Blank}
use Rattle.hd_dbd.specs.Forest.{Forest}
use Rattle.hd_calls.specs.Ssas.{Ssa}
use Rattle.hd_calls.specs.Moves.{Change}
use Rattle.hd_calls.specs.Steps.{Effect, answered, State, AcceptedCall, own_step, step, state_after, position_at, get_effect}
use Rattle.hd_calls.specs.Runs.{Follows}
use Rattle.hd_volume.specs.Volumes.{VolumeState}
use Rattle.hd_links.specs.Placed.{Placed}
use Rattle.hd_links.specs.Steps.{rows_of}
use Rattle.hd_changes.specs.VolumeImages.{images_of}
use Rattle.hd_position.specs.Kept.{Kept, StandsFor, row_on, path_passed}
use Rattle.hd_get.specs.Gets.{GetCall, IsPositionIn, answer_to}
use Rattle.hd_get.specs.declared.outcome.Outcome.{Outcome}
use Rattle.hd_get.specs.declared.outcome.Outcome.TheVariants.{Found, Missing}
use Rattle.hd_update.specs.Calls.{replace_effect, delete_effect}
use Rattle.hd_session.specs.Giving.{is_among}
use Rattle.hd_update.specs.States.{Represents, IsUndone, LacksRoomFor, StoresSome}
use Rattle.hd_dbd.specs.declared.answer.Refused.{Refused}
use Rattle.hd_dbd.specs.declared.answer.Refused.TheVariants.{Device, Full, Memory}
use Rattle.hd_calls.specs.Functions.{function_of}
use Rattle.hd_calls.specs.declared.call.Function.TheVariants.{Insert}

-- ---- a call

-- A call of the PCB of a number was answered: the reply is that of its effect, the volume and what is kept stand for the state behind it,
-- and the volume's bytes follow from those before by its change.
pub record IsStep (d : Database) (v : VolumeState) (st : State) (number : ℕ) (effect : Effect) (reply : Reply) (w : VolumeState) (kept : List Kept) : Type 0 where
  pub change : Change
  pub own : Position
  pub is : effect ≡ answered reply change own
  pub represents : Represents d w kept (state_after d.types st number effect)
  pub follows : Follows (images_of d) st.rows v.image change (state_after d.types st number effect).rows w.image

-- whatever state the sound volume and what was kept stood for, the call with this effect in it was answered so
abbrev pub IsStepDone : Database → VolumeState → List Kept → ℕ → (State → Effect) → Reply → VolumeState → List Kept → Type 0
IsStepDone d v old number effect reply w new =
    (st : State) → IsTrue v.is_sound → Represents d v old st → IsStep d v st number (effect st) reply w new

-- ---- gets

-- wherever what was kept stood for a position, the reply is that of the get there, and what is kept now stands for where it leaves the PCB
abbrev pub IsGetAnswered : Database → VolumeState → GetCall → Kept → Reply → Kept → Type 0
IsGetAnswered d v c old reply new =
    (f : Forest Placed) (q : Position) → IsPositionIn d v f old q
    → (reply ≡ (answer_to c d.types (rows_of f) q).0) × StandsFor d.types f new (answer_to c d.types (rows_of f) q).1

-- what a get does in a state
abbrev pub get_in : Database → ℕ → GetCall → State → Effect
get_in d number c st = get_effect (answer_to c d.types st.rows (position_at st number))

-- ---- REPL and DLET

-- Wherever what is kept stands for a position, and row i stands on its path at the level, the reply gives that row, without bytes.
abbrev pub IsLevelGiven : Database → VolumeState → Kept → ℕ → Reply → Type 0
IsLevelGiven d v k level reply =
    (f : Forest Placed) (q : Position) (i : ℕ) (pcb : View) → IsPositionIn d v f k q → row_on (path_passed d.types (rows_of f) q.passed) level ≡ Some i
    → reply ≡ row_reply (record { types = d.types; pcb = pcb }) (rows_of f) i Blank []

-- the level of the lowest held row, 0 where none is held
abbrev pub lowest_level : List ℕ → ℕ
lowest_level levels = slice_index levels (length levels - 1)

-- the level of the held row that DLET takes: of the argument's type, if it is held, or else the highest; 0 where there is none
abbrev pub deleted_level : List SegmentType → List Ssa → List ℕ → ℕ
deleted_level types [] levels = slice_index levels 0
deleted_level types (a ∷ ssas) levels = cond (is_among levels (level_of types a.code)) (level_of types a.code) 0

-- an update that came to an outcome answers the row given before it, or a status alone
abbrev pub IsTold : Outcome → Reply → Reply → Type 0
IsTold (Found status) given reply = reply ≡ given
IsTold (Missing status) given reply = reply ≡ bare status

-- REPL was answered, whatever the PCB sees
abbrev pub IsReplaceStep : Database → VolumeState → List Kept → ℕ → List Ssa → List ℕ → Reply → VolumeState → List Kept → Type 0
IsReplaceStep d v old number ssas area reply w new = (pcb : View) → IsStepDone d v old number (replace_effect d pcb number ssas area) reply w new

-- DLET was answered, whatever the PCB sees
abbrev pub IsDeleteStep : Database → VolumeState → List Kept → ℕ → List Ssa → Reply → VolumeState → List Kept → Type 0
IsDeleteStep d v old number ssas reply w new = (pcb : View) → IsStepDone d v old number (delete_effect d pcb number ssas) reply w new

-- ---- a call of a PCB

-- what a call that passed its tests does in a state
abbrev pub own_in : Database → View → ℕ → List ℕ → AcceptedCall → State → Effect
own_in d pcb number area a st = own_step (record { types = d.types; pcb = pcb }) st.rows (position_at st number) area a.function a.ssas

-- what a call does in a state
abbrev pub call_in : Database → View → ℕ → CallText → State → Effect
call_in d pcb number call st = step d.types pcb st number call

-- Where a refusal is not of a failed access, the volume's bytes and what is kept are as they were.
abbrev pub IsUndoneUnlessDevice : VolumeState → List Kept → Refused → VolumeState → List Kept → Type 0
IsUndoneUnlessDevice v old e w new = e ≢ Device → IsUndone v old w new

-- Where the refusal is Full, the call would be answered with blanks, and room lacks for its rows, whatever state the sound volume and what
-- was kept stood for.
abbrev pub IsRoomLacking : Database → VolumeState → List Kept → (State → Effect) → Refused → Type 0
IsRoomLacking d v old effect e = (st : State) → e ≡ Full → IsTrue v.is_sound → Represents d v old st → LacksRoomFor d v st.rows (effect st)

-- Where the refusal is of memory, the call stores a row, whatever state the sound volume and what was kept stood for: it puts one in, or makes one
-- longer.
abbrev pub IsMemoryLacking : Database → VolumeState → List Kept → (State → Effect) → Refused → Type 0
IsMemoryLacking d v old effect e = (st : State) → e ≡ Memory → IsTrue v.is_sound → Represents d v old st → StoresSome st.rows (effect st)

-- the fact holds of a call that is no ISRT and has four arguments at most
abbrev pub IfFewNoInsert : CallText → Type 0 → Type 0
IfFewNoInsert call fact = function_of call.function ≢ Some Insert → length call.ssas ≤ 4 → fact
