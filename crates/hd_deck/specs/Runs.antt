-- What the run of a deck comes to: the log of its calls, and what it leaves.
use Rattle.std.specs.Prelude.{◌≡◌, ◌≢◌, IsTrue, ℕ, ◌<◌, ◌≤◌, List, length, take, filter, flat_map, replicate, Bool, true, false, Option, Some, None, Result, Ok, Err}
use Rattle.std.specs.Io.KnownBytes.{Appends}
use Rattle.hd_dbd.specs.declared.answer.Refused.{Refused}
use Rattle.hd_dbd.specs.declared.answer.Refused.TheVariants as refused
use Rattle.hd_dbd.specs.Calls.{CallText}
use Rattle.hd_dbd.specs.Types.{View}
use Rattle.hd_dbd.specs.Hierarchy.{Database}
use Rattle.hd_dbd.specs.Segment.{Segment}
use Rattle.hd_dbd.specs.Forest.{Forest, sequence}
use Rattle.hd_dbd.specs.Logs.{Outcome, replied, area, full, memory, Entry, Log}
use Rattle.hd_calls.specs.Steps.{State}
use Rattle.hd_calls.specs.Runs.{IsLegalLog}
use Rattle.hd_calls.specs.NoLostUpdate.{opened}
use Rattle.hd_image.specs.Holding.{HoldsForest, volume_of}
use Rattle.hd_changes.specs.VolumeImages.{images_of}
use Rattle.hd_update.specs.States.{Represents}
use Rattle.hd_session.specs.declared.call_and_answer.Answer.{Answer}
use Rattle.hd_session.specs.declared.opening.OpenFault.TheVariants as opening
use Rattle.hd_session.specs.Opening.{SessionState, IsOpenFaultOf}
use Rattle.hd_session.specs.Turns.{Turn, turns_in, LackMemoryFairly, StaysWhole, AreMade}
use Rattle.hd_deck.specs.declared.runs.RunFault.{RunFault}
use Rattle.hd_deck.specs.declared.runs.RunFault.TheVariants as run
use Rattle.hd_deck.specs.declared.plays.Stop.{Stop}
use Rattle.hd_deck.specs.declared.plays.Stop.TheVariants as stop
use Rattle.hd_deck.specs.StepText.{StepText}
use Rattle.hd_deck.specs.Printing.{lines_from, print}

-- ---- the calls of a deck

-- a call of a PCB, made so many times
abbrev pub repeated : ℕ → ℕ → CallText → List Turn
repeated count pcb call = replicate count (record { pcb = pcb; call = call })

-- the calls of one step
abbrev pub step_turns : StepText → List Turn
step_turns s = repeated s.repeat s.pcb s.call

-- the calls of a deck in their order, each as often as its step is repeated
abbrev pub turns_of : List StepText → List Turn
turns_of steps = flat_map step_turns steps

-- ---- entries of a log

-- a call found no memory
abbrev pub is_memory : Outcome → Bool
is_memory (replied r) = false
is_memory area = false
is_memory full = false
is_memory memory = true

-- how many of the calls found no memory
abbrev pub memory_in : {Image : Type 0} → List (Entry Image) → ℕ
memory_in entries = length (filter (λ e. is_memory e.outcome) entries)

-- how many calls, 0 or 1, found no memory by what a call answered; none where an access failed, then or before
abbrev pub memory_of : Result Answer Refused → Option ℕ
memory_of (Ok a) = Some 0
memory_of (Err refused.Memory) = Some 1
memory_of (Err refused.Full) = Some 0
memory_of (Err refused.Device) = None
memory_of (Err refused.Broken) = None
memory_of (Err refused.Area) = Some 0

-- ---- in a session

-- The calls were made, and their lines were written, the first of which has the number; and so many of them found no memory.
pub record ArePlayed (s : SessionState) (st : State) (turns : List Turn) (number : ℕ) (old new : Option (List ℕ)) (lacking : ℕ) (t : SessionState) : Type 0 where
  pub entries : List (Entry (List ℕ))
  pub made : AreMade s st turns entries t
  pub printed : Appends old new (lines_from number entries)
  pub memory : lacking ≡ memory_in entries

-- The first of the calls were made, however many.
pub record AreMadeInPart (s : SessionState) (st : State) (turns : List Turn) (t : SessionState) : Type 0 where
  pub count : ℕ
  pub some : count ≤ length turns
  pub entries : List (Entry (List ℕ))
  pub made : AreMade s st (take count turns) entries t

-- what a stop says of the calls: before a failed write the first of them were made; a failed access says nothing
abbrev pub AreMadeUntil : SessionState → State → List Turn → Stop → SessionState → Type 0
AreMadeUntil s st turns stop.Device t = Unit {0}
AreMadeUntil s st turns stop.Write t = AreMadeInPart s st turns t

-- whatever state the session stood for, the calls were played from it
abbrev pub PlaysAll : SessionState → List Turn → ℕ → Option (List ℕ) → Option (List ℕ) → ℕ → SessionState → Type 0
PlaysAll s turns number old new lacking t =
    (st : State) → IsTrue s.volume.is_sound → Represents s.database s.volume s.kept st → ArePlayed s st turns number old new lacking t

-- whatever state the session stood for, calls were made from it until the stop
abbrev pub PlaysUntil : SessionState → List Turn → Stop → SessionState → Type 0
PlaysUntil s turns e t = (st : State) → IsTrue s.volume.is_sound → Represents s.database s.volume s.kept st → AreMadeUntil s st turns e t

-- An access has failed in a session.
pub record Breaks (s t : SessionState) : Type 0 where
  pub broken : t.broken ≡ true
  pub failures : s.volume.failures < t.volume.failures
  pub sound : t.volume.is_sound ≡ false
  pub size : t.volume.size ≡ s.volume.size

-- what a stop says of the session
abbrev pub StopsAt : SessionState → Stop → SessionState → Type 0
StopsAt s stop.Device t = Breaks s t
StopsAt s stop.Write t = StaysWhole s t

-- ---- a session that is closed

-- The calls were played, and the bytes that are left are those behind the last.
pub record ArePlayedOut (s : SessionState) (st : State) (turns : List Turn) (old new : Option (List ℕ)) (lacking : ℕ) (left : List ℕ) : Type 0 where
  pub last : SessionState
  pub played : ArePlayed s st turns 1 old new lacking last
  pub ends : last.volume.image ≡ left

-- The first of the calls were made, and the bytes that are left are those behind the last of them.
pub record AreLeftInPart (s : SessionState) (st : State) (turns : List Turn) (left : List ℕ) : Type 0 where
  pub last : SessionState
  pub made : AreMadeInPart s st turns last
  pub ends : last.volume.image ≡ left

-- what a stop says of the bytes that are left
abbrev pub IsLeftAt : SessionState → State → List Turn → Stop → List ℕ → Type 0
IsLeftAt s st turns stop.Device left = Unit {0}
IsLeftAt s st turns stop.Write left = AreLeftInPart s st turns left

-- whatever state the session stood for, the calls were played from it, and these bytes are left
abbrev pub PlaysOut : SessionState → List Turn → Option (List ℕ) → Option (List ℕ) → ℕ → List ℕ → Type 0
PlaysOut s turns old new lacking left =
    (st : State) → IsTrue s.volume.is_sound → Represents s.database s.volume s.kept st → ArePlayedOut s st turns old new lacking left

-- whatever state the session stood for, calls were made from it until the stop, and these bytes are left
abbrev pub LeavesAt : SessionState → List Turn → Stop → List ℕ → Type 0
LeavesAt s turns e left = (st : State) → IsTrue s.volume.is_sound → Represents s.database s.volume s.kept st → IsLeftAt s st turns e left

-- ---- a run

-- A store's bytes held one forest and no other; the calls came to this log, which is legal from the hierarchic sequence of that forest and
-- all PCBs at the start, and which says that memory was wanting only at calls that take some; and the bytes that are left are those behind its
-- last entry.
pub record IsPlayed (d : Database) (pcbs : List View) (bytes : List ℕ) (turns : List Turn) (log : Log (List ℕ)) (left : List ℕ) : Type 0 where
  pub forest : Forest Segment
  pub holds : HoldsForest d (volume_of d bytes) forest
  pub one : (g : Forest Segment) → HoldsForest d (volume_of d bytes) g → g ≡ forest
  pub legal : IsLegalLog (images_of d) d.types pcbs bytes (opened pcbs (sequence forest)) log
  pub asked : turns_in log.entries ≡ turns
  pub lacking : LackMemoryFairly d.types pcbs (opened pcbs (sequence forest)) log.entries
  pub ends : log.last ≡ left

-- A run that made all calls: their log, its lines, which were written, and how many of the calls found no memory.
pub record IsWholeRun (d : Database) (pcbs : List View) (bytes : List ℕ) (turns : List Turn) (old new : Option (List ℕ)) (lacking : ℕ) (left : List ℕ) : Type 0 where
  pub log : Log (List ℕ)
  pub played : IsPlayed d pcbs bytes turns log left
  pub printed : Appends old new (print log)
  pub memory : lacking ≡ memory_in log.entries

-- the same, of the calls of some steps
abbrev pub IsRunWhole : Database → List View → List ℕ → List StepText → Option (List ℕ) → Option (List ℕ) → ℕ → List ℕ → Type 0
IsRunWhole d pcbs bytes steps old new lacking left = IsWholeRun d pcbs bytes (turns_of steps) old new lacking left

-- A run of which the first calls were made, however many.
pub record IsPlayedInPart (d : Database) (pcbs : List View) (bytes : List ℕ) (turns : List Turn) (left : List ℕ) : Type 0 where
  pub made : ℕ
  pub some : made ≤ length turns
  pub log : Log (List ℕ)
  pub played : IsPlayed d pcbs bytes (take made turns) log left

-- What a fault says of a run: what refused the opening, and want of memory, came before the first call, and changed nothing; before a failed
-- write some of the calls were made; a failed access says nothing.
abbrev pub IsRunFaultOf : Database → List View → List ℕ → List Turn → List ℕ → RunFault → Type 0
IsRunFaultOf d pcbs bytes turns left (run.Open fault) = IsOpenFaultOf d pcbs (volume_of d bytes) fault × (fault ≢ opening.Device → left ≡ bytes)
IsRunFaultOf d pcbs bytes turns left run.Memory = left ≡ bytes
IsRunFaultOf d pcbs bytes turns left run.Device = Unit {0}
IsRunFaultOf d pcbs bytes turns left run.Write = IsPlayedInPart d pcbs bytes turns left

-- the fault that ends a run at a stop
abbrev pub fault_of : Stop → RunFault
fault_of stop.Device = run.Device
fault_of stop.Write = run.Write

-- the fault came before the first call
abbrev pub IsBeforeCalls : RunFault → Type 0
IsBeforeCalls (run.Open fault) = Unit {0}
IsBeforeCalls run.Memory = Unit {0}
IsBeforeCalls run.Device = ⊥
IsBeforeCalls run.Write = ⊥

-- only a fault of Device says that an access failed, as far as the store goes
abbrev pub fault_refusal : RunFault → Refused
fault_refusal (run.Open (opening.Check fault)) = refused.Memory
fault_refusal (run.Open (opening.Old version)) = refused.Memory
fault_refusal (run.Open opening.NotEmptyForLoad) = refused.Memory
fault_refusal (run.Open opening.Memory) = refused.Memory
fault_refusal (run.Open opening.Device) = refused.Device
fault_refusal run.Memory = refused.Memory
fault_refusal run.Device = refused.Device
fault_refusal run.Write = refused.Memory
