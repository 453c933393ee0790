-- What a refusal of a reload says of the store.
use Rattle.std.specs.Prelude.{◌≡◌, ◌≢◌, ℕ, Bool, IsTrue, List, Result, Ok, Err, Some, None, option_map}
use Rattle.hd_dbd.specs.declared.answer.Refused.{Refused}
use Rattle.hd_dbd.specs.declared.answer.Refused.TheVariants as refused
use Rattle.hd_dbd.specs.Hierarchy.{Database}
use Rattle.hd_dbd.specs.Segment.{Segment}
use Rattle.hd_dbd.specs.Loads.{load_fault}
use Rattle.hd_volume.specs.Volumes.{VolumeState}
use Rattle.hd_volume.specs.Images.{KeepsFirst}
use Rattle.hd_stores.specs.Stores.{CountsFor, SoundFor}
use Rattle.hd_changes.specs.VolumeImages.{LacksRoomForRow}
use Rattle.hd_unload.specs.declared.fault.ReloadFault.{ReloadFault}
use Rattle.hd_unload.specs.declared.fault.ReloadFault.TheVariants.{Record, Full, Memory, Device}
use Rattle.hd_unload.specs.Streams.{refusal_of, IsRefusedAt}
use Rattle.hd_unload.specs.Loads.{IsFullAt, HasNoHeader}

-- the refusal of a call that a fault stands for, as far as the store goes: only Device says that an access failed
abbrev pub refused_by : ReloadFault → Refused
refused_by (Record fault n) = refused.Full
refused_by (Full n) = refused.Full
refused_by Memory = refused.Memory
refused_by Device = refused.Device

-- what a call's result is, as far as the store goes
abbrev pub as_call : {T : Type 0} → Result T ReloadFault → Result T Refused
as_call (Ok x) = Ok x
as_call (Err e) = Err (refused_by e)

-- What a fault says of one record of a number, whose row would come behind the last row of a path.
abbrev pub IsFaultOfRow : Database → List Segment → Segment → ℕ → VolumeState → ReloadFault → Type 0
IsFaultOfRow d path row number v (Record fault n) = (n ≡ number) × (option_map refusal_of (load_fault d.types path row) ≡ Some fault)
IsFaultOfRow d path row number v (Full n) = (n ≡ number) × (load_fault d.types path row ≡ None) × (IsTrue v.is_sound → LacksRoomForRow d v row)
IsFaultOfRow d path row number v Memory = Unit {0}
IsFaultOfRow d path row number v Device = Unit {0}

-- What a fault says of the stream: the first bad record, or one for which there is no room where the store is sound.
abbrev pub IsFaultOf : Database → List ℕ → ℕ → Bool → ReloadFault → Type 0
IsFaultOf d stream largest is_sound (Record fault n) = IsRefusedAt d stream n fault
IsFaultOf d stream largest is_sound (Full n) = IsTrue is_sound → IsFullAt d stream largest n
IsFaultOf d stream largest is_sound Memory = Unit {0}
IsFaultOf d stream largest is_sound Device = Unit {0}

-- A store that was empty is given back with a fault: no one takes what it has for a volume, unless an access failed.
pub record IsGivenUp {S : Type 0} (size : S → ℕ) (contents : S → List ℕ) (is_sound : S → Bool) (failures : S → ℕ) (old : S) (given : S × ReloadFault) : Type 0 where
  pub counts : CountsFor (refused_by given.1) (failures old) (failures given.0)
  pub sound : SoundFor (refused_by given.1) (is_sound old) (is_sound given.0)
  pub none : given.1 ≢ Device → IsTrue (is_sound old) → HasNoHeader (size old) (contents given.0)
  pub size_kept : size given.0 ≡ size old

-- The same of a volume that is given up, whose own block 0 is zeros until it is flushed.
pub record IsGivenFrom {S : Type 0} (size : S → ℕ) (contents : S → List ℕ) (is_sound : S → Bool) (failures : S → ℕ) (old : VolumeState) (given : S × ReloadFault) : Type 0 where
  pub counts : CountsFor (refused_by given.1) old.failures (failures given.0)
  pub sound : SoundFor (refused_by given.1) old.is_sound (is_sound given.0)
  pub none : given.1 ≢ Device → IsTrue old.is_sound → KeepsFirst old.size old.stored (contents given.0)
  pub size_kept : size given.0 ≡ old.size

-- A store that comes back of a volume has the volume's soundness, its count of failures and its block size.
abbrev pub IsStoreOf : {S : Type 0} → (S → ℕ) → (S → Bool) → (S → ℕ) → VolumeState → S → Type 0
IsStoreOf size is_sound failures volume store = (is_sound store ≡ volume.is_sound) × (failures store ≡ volume.failures) × (size store ≡ volume.size)
