-- A session over a volume: what it keeps to, and how it is opened, flushed and closed.
use Rattle.std.specs.Prelude.{◌≡◌, ◌≢◌, ℕ, ◌<◌, ◌≤◌, List, [], length, map, IsTrue, Bool, true, false, Some, Result, Ok, Err}
use Rattle.std.specs.List.{list_any}
use Rattle.hd_dbd.specs.declared.answer.Refused.{Refused}
use Rattle.hd_dbd.specs.declared.answer.Refused.TheVariants as refused
use Rattle.hd_dbd.specs.Types.{View}
use Rattle.hd_dbd.specs.Hierarchy.{Database}
use Rattle.hd_dbd.specs.Facts.{stored_sizes}
use Rattle.hd_dbd.specs.Segment.{Segment}
use Rattle.hd_dbd.specs.Rows.{valid}
use Rattle.hd_dbd.specs.Forest.{Forest}
use Rattle.hd_dbd.specs.declared.program.TypeName.{TypeName}
use Rattle.hd_dbd.specs.ProgramRules.{type_names, program_fits}
use Rattle.hd_calls.specs.Access.{loads}
use Rattle.hd_calls.specs.Runs.{view_of}
use Rattle.hd_calls.specs.Steps.{State, position_at}
use Rattle.hd_calls.specs.NoLostUpdate.{opened}
use Rattle.hd_volume.specs.Headers.{header_of}
use Rattle.hd_volume.specs.Volumes.{VolumeState}
use Rattle.hd_volume.specs.Spacing.{IsPlain}
use Rattle.hd_volume.specs.Calls.{IsCall, IsRead}
use Rattle.hd_volume.specs.declared.header.TheConstants.{NEWEST_VERSION}
use Rattle.hd_links.specs.Placed.{Placed, forest_of}
use Rattle.hd_links.specs.Steps.{rows_of}
use Rattle.hd_image.specs.Holding.{HoldsPlaced, HoldsForest, HoldsRows}
use Rattle.hd_check.specs.declared.checks.CheckFault.TheVariants as check
use Rattle.hd_check.specs.Checks.{IsFaultOf}
use Rattle.hd_position.specs.Kept.{Kept, kept_start}
use Rattle.hd_update.specs.States.{Represents}
use Rattle.hd_session.specs.declared.opening.OpenFault.{OpenFault}
use Rattle.hd_session.specs.declared.opening.OpenFault.TheVariants as opening

-- ---- the session

-- What callers see of a session over a volume: the database, the PCBs of the program, the volume, what is kept of each PCB, and whether an
-- access has failed in it.
pub record SessionState : Type 0 where
  pub database : Database
  pub pcbs : List View
  pub volume : VolumeState
  pub kept : List Kept
  pub broken : Bool

-- each PCB that loads has passed all rows of the state
abbrev pub LoadersArePastAll : List View → State → Type 0
LoadersArePastAll pcbs st = (number : ℕ) (pcb : View) → view_of pcbs number ≡ Some pcb → loads pcb ≡ true → (position_at st number).passed ≡ length st.rows

-- The volume and what is kept stand for a state, in which each PCB that loads has passed all rows.
pub record StandsForState (d : Database) (v : VolumeState) (pcbs : List View) (kept : List Kept) : Type 0 where
  pub state : State
  pub represents : Represents d v kept state
  pub loaders : LoadersArePastAll pcbs state

-- What a session keeps to: its program is made for its database and keeps to the rules, the sizes are that database's, the volume
-- keeps nothing free as it grows, something is kept of each PCB; and while it is not broken and its store is sound, it stands for a state.
pub record IsSession (names : List TypeName) (s : SessionState) : Type 0 where
  pub made_for : names ≡ type_names s.database.types
  pub program : IsTrue (program_fits names s.pcbs)
  pub size : s.volume.size ≡ s.database.block_size
  pub sizes : s.volume.sizes ≡ stored_sizes s.database.types
  pub plain : IsPlain s.volume
  pub one_each : length s.kept ≡ length s.pcbs
  pub stands : s.broken ≡ false → IsTrue s.volume.is_sound → StandsForState s.database s.volume s.pcbs s.kept

-- ---- its opening

-- one of the PCBs at least loads
abbrev pub has_loader : List View → Bool
has_loader pcbs = list_any loads pcbs

-- what is kept where each PCB is before all rows
abbrev pub all_at_start : List View → List Kept
all_at_start pcbs = map (λ _. kept_start) pcbs

-- a session over a volume whose PCBs are before all rows, and in which no access has failed
abbrev pub session_at_start : Database → List View → VolumeState → SessionState
session_at_start d pcbs v = record { database = d; pcbs = pcbs; volume = v; kept = all_at_start pcbs; broken = false }

-- The volume is of the newest version, and holds a forest and no other, whose rows are valid; and where one of the PCBs loads it has none.
pub record IsReadyFor (d : Database) (pcbs : List View) (v : VolumeState) : Type 0 where
  pub newest : (header_of v.image).version ≡ NEWEST_VERSION
  pub placed : Forest Placed
  pub holds : HoldsPlaced d v placed
  pub one : (g : Forest Segment) → HoldsForest d v g → g ≡ forest_of placed
  pub valid : valid d.types (rows_of placed) ≡ true
  pub empty_for_load : has_loader pcbs ≡ true → rows_of placed ≡ []

-- The volume was ready, and with what is kept it stands, as it is now, for the state in which each PCB is before all its rows.
pub record IsOpenedOver (d : Database) (pcbs : List View) (v : VolumeState) (s : SessionState) : Type 0 where
  pub ready : IsReadyFor d pcbs v
  pub represents : Represents d s.volume s.kept (opened pcbs (rows_of ready.placed))

-- What a fault of an opening says of the volume: a fault of the check is the least that stands in it; where it is old, it holds rows, and this
-- is its version, which is not the newest; and where it is not empty for a load, it is of the newest version, a PCB loads and it holds a row.
-- Want of memory and a failed access say nothing.
abbrev pub IsOpenFaultOf : Database → List View → VolumeState → OpenFault → Type 0
IsOpenFaultOf d pcbs v (opening.Check fault) = IsFaultOf d v (check.Fault fault)
IsOpenFaultOf d pcbs v (opening.Old version) = (version ≡ (header_of v.image).version) × (version ≢ NEWEST_VERSION) × (rows : List Segment) × HoldsRows d v rows
IsOpenFaultOf d pcbs v opening.NotEmptyForLoad =
    ((header_of v.image).version ≡ NEWEST_VERSION) × (has_loader pcbs ≡ true) × (rows : List Segment) × HoldsRows d v rows × (0 < length rows)
IsOpenFaultOf d pcbs v opening.Memory = Unit {0}
IsOpenFaultOf d pcbs v opening.Device = Unit {0}

-- what an opening's result is, as far as the store goes: only Device says that an access failed
abbrev pub opening_call : {T : Type 0} → Result T OpenFault → Result T Refused
opening_call (Ok x) = Ok x
opening_call (Err (opening.Check fault)) = Err refused.Memory
opening_call (Err (opening.Old version)) = Err refused.Memory
opening_call (Err opening.NotEmptyForLoad) = Err refused.Memory
opening_call (Err opening.Memory) = Err refused.Memory
opening_call (Err opening.Device) = Err refused.Device

-- The volume was only read and is in the session, where it keeps nothing free as it grows, and has no less room.
pub record IsReadPlain (v : VolumeState) (s : SessionState) : Type 0 where
  pub call : IsCall v (Ok s) s.volume
  pub image : IsTrue s.volume.is_sound → s.volume.image ≡ v.image
  pub stands : IsTrue s.volume.is_sound → v.stored ≡ v.image → s.volume.stored ≡ s.volume.image
  pub plain : IsPlain s.volume
  pub room : v.room ≤ s.volume.room

-- the volume was only read; it is in the session, or it was given back beside the fault
abbrev pub IsOpenRead : VolumeState → Result SessionState (VolumeState × OpenFault) → Type 0
IsOpenRead v (Ok s) = IsReadPlain v s
IsOpenRead v (Err given) = IsRead v (opening_call {T = SessionState} (Err given.1)) given.0

-- ---- failed accesses

-- Broken was answered, which says that an access failed before
abbrev pub was_broken : {T : Type 0} → Result T Refused → Bool
was_broken (Ok x) = false
was_broken (Err refused.Memory) = false
was_broken (Err refused.Full) = false
was_broken (Err refused.Device) = false
was_broken (Err refused.Broken) = true
was_broken (Err refused.Area) = false

-- a session that answers so is broken from then on: Broken or Device was answered
abbrev pub is_broken_by : {T : Type 0} → Result T Refused → Bool
is_broken_by (Ok x) = false
is_broken_by (Err refused.Memory) = false
is_broken_by (Err refused.Full) = false
is_broken_by (Err refused.Device) = true
is_broken_by (Err refused.Broken) = true
is_broken_by (Err refused.Area) = false

-- a failed access or an earlier one refuses the call, and nothing else
abbrev pub OnlyDeviceOrBroken : {T : Type 0} → Result T Refused → Type 0
OnlyDeviceOrBroken (Ok x) = Unit {0}
OnlyDeviceOrBroken (Err refused.Memory) = ⊥
OnlyDeviceOrBroken (Err refused.Full) = ⊥
OnlyDeviceOrBroken (Err refused.Device) = Unit {0}
OnlyDeviceOrBroken (Err refused.Broken) = Unit {0}
OnlyDeviceOrBroken (Err refused.Area) = ⊥
