-- Calls that are made in a session one after another, and the entries of a log that they come to.
use Rattle.std.specs.Prelude.{◌≡◌, ◌≢◌, ◌⊎◌, ℕ, ◌<◌, ◌≤◌, List, [], ◌∷◌, length, map, false, Some, Result, Err, IsTrue, IfErr}
use Rattle.hd_dbd.specs.declared.answer.Refused.{Refused}
use Rattle.hd_dbd.specs.declared.answer.Refused.TheVariants as refused
use Rattle.hd_dbd.specs.Calls.{CallText}
use Rattle.hd_dbd.specs.Logs.{Outcome, memory, Entry}
use Rattle.hd_dbd.specs.Types.{SegmentType, View}
use Rattle.hd_calls.specs.declared.call.Function.TheVariants.{Insert, Replace}
use Rattle.hd_calls.specs.Functions.{function_of}
use Rattle.hd_calls.specs.Steps.{State}
use Rattle.hd_calls.specs.Runs.{IsRun, effect_by, next_state, last_state, image_at, ImagesFollow}
use Rattle.hd_volume.specs.Calls.{IsCall}
use Rattle.hd_changes.specs.VolumeImages.{images_of}
use Rattle.hd_update.specs.States.{Represents, StoresSome}
use Rattle.hd_session.specs.declared.call_and_answer.Answer.{Answer}
use Rattle.hd_session.specs.Buffer.{Buffer}
use Rattle.hd_session.specs.Opening.{SessionState, is_broken_by}
use Rattle.hd_session.specs.Logged.{IsCallLogged}

-- One call of a PCB.
pub record Turn : Type 0 where
  pub pcb : ℕ
  pub call : CallText

-- the calls that entries are of
abbrev pub turns_in : {Image : Type 0} → List (Entry Image) → List Turn
turns_in entries = map (λ e. record { pcb = e.pcb; call = e.call }) entries

-- a call by the PCB of a number that takes memory in a state: an ISRT; one that stores a row, as a REPL that makes one longer; or one with more
-- than four segment search arguments
abbrev pub TakesMemory : List SegmentType → List View → State → ℕ → CallText → Type 0
TakesMemory types pcbs st number call =
    (function_of call.function ≡ Some Insert) ⊎ StoresSome st.rows (effect_by types pcbs st number call) ⊎ (4 < length call.ssas)

-- memory was wanting only at calls that take some in the state that they came to
abbrev pub LackMemoryFairly : {Image : Type 0} → List SegmentType → List View → State → List (Entry Image) → Type 0
LackMemoryFairly types pcbs st [] = Unit {0}
LackMemoryFairly types pcbs st (e ∷ entries) =
    (e.outcome ≡ memory → TakesMemory types pcbs st e.pcb e.call) × LackMemoryFairly types pcbs (next_state types pcbs st e) entries

-- whatever state a session over a sound store stands for, a call by the PCB of a number takes memory in it
abbrev pub MayLackMemory : SessionState → ℕ → CallText → Type 0
MayLackMemory s number call =
    (st : State) → IsTrue s.volume.is_sound → Represents s.database s.volume s.kept st → TakesMemory s.database.types s.pcbs st number call

-- No access has failed in a session, which is still of its database and its PCBs.
pub record StaysWhole (s t : SessionState) : Type 0 where
  pub database : t.database ≡ s.database
  pub pcbs : t.pcbs ≡ s.pcbs
  pub whole : t.broken ≡ false
  pub failures : t.volume.failures ≡ s.volume.failures
  pub sound : t.volume.is_sound ≡ s.volume.is_sound
  pub size : t.volume.size ≡ s.volume.size

-- A call was answered in a session by one of its PCBs, as a session answers: it came to what is logged, memory lacks only where the call takes
-- some, and of the session nothing changed but the volume, what is kept and whether an access has failed.
pub record IsTurnAnswered (s : SessionState) (turn : Turn) (result : Result Answer Refused) (io : Buffer) (t : SessionState) : Type 0 where
  pub pcb : (0 < turn.pcb) × (turn.pcb ≤ length s.pcbs)
  pub logged : IsCallLogged s turn.pcb turn.call result io t
  pub memory : result ≡ Err refused.Memory → MayLackMemory s turn.pcb turn.call
  pub never : function_of turn.call.function ≢ Some Insert → function_of turn.call.function ≢ Some Replace → length turn.call.ssas ≤ 4 → IfErr result (λ e. e ≢ refused.Memory)
  pub same : t ≡ record s { volume = t.volume; kept = t.kept; broken = is_broken_by result }
  pub call : IsCall s.volume result t.volume

-- A flush of a session was answered with Ok: its image stands in the store, and all else is as it was.
pub record IsFlushed (s t : SessionState) : Type 0 where
  pub image : t.volume.image ≡ s.volume.image
  pub stored : t.volume.stored ≡ s.volume.image
  pub same : t ≡ record s { volume = t.volume; broken = false }
  pub failures : t.volume.failures ≡ s.volume.failures
  pub sound : t.volume.is_sound ≡ s.volume.is_sound
  pub sizes : (t.volume.size ≡ s.volume.size) × (t.volume.sizes ≡ s.volume.sizes)

-- Calls by a session that stood for a state came to these entries, as a legal log has them, and the session, in which no access has failed
-- since, stands for the state behind them.
pub record AreMade (s : SessionState) (st : State) (turns : List Turn) (entries : List (Entry (List ℕ))) (t : SessionState) : Type 0 where
  pub asked : turns_in entries ≡ turns
  pub begins : image_at entries t.volume.image ≡ s.volume.image
  pub runs : IsRun s.database.types s.pcbs st entries
  pub follows : ImagesFollow (images_of s.database) s.database.types s.pcbs st entries t.volume.image
  pub lacking : LackMemoryFairly s.database.types s.pcbs st entries
  pub represents : Represents s.database t.volume t.kept (last_state s.database.types s.pcbs st entries)
  pub whole : StaysWhole s t

-- the entry of a call that came to an outcome in a session
abbrev pub entry_of : SessionState → Turn → Outcome → Entry (List ℕ)
entry_of s turn o = record { before = s.volume.image; pcb = turn.pcb; call = turn.call; outcome = o }
