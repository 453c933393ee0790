-- What the commands say of what they were given, and what they print.
use Rattle.std.specs.Prelude.{◌≡◌, ◌⊎◌, ◌<◌, ℕ, List, Bool, true, IsTrue, Option, Some}
use Rattle.std.specs.Io.KnownBytes.{Appends}
use Rattle.hd_dbd.specs.Hierarchy.{Database}
use Rattle.hd_dbd.specs.Segment.{Segment}
use Rattle.hd_volume.specs.Volumes.{VolumeState}
use Rattle.hd_image.specs.Holding.{HoldsRows}
use Rattle.hd_check.specs.declared.checks.Passed.{Passed}
use Rattle.hd_check.specs.Checks.{IsPassed, IsFaulty}
use Rattle.hd_unload.specs.Unloads.{IsUnloaded}
use Rattle.hd_unload.specs.Streams.{IsRefusedAt}
use Rattle.hd_unload.specs.Loads.{IsReloaded, IsFullAt}
use Rattle.hd_commands.specs.declared.ended.Ended.{Ended}
use Rattle.hd_commands.specs.declared.refusal.Refusal.{Refusal}
use Rattle.hd_commands.specs.declared.refusal.Refusal.TheVariants.{Fault, Old, NotEmpty, Record, Full, Device, Memory}
use Rattle.hd_commands.specs.Lines.{passed_line, unloaded_line, reloaded_line, refusal_line, status_of}

-- ---- work that is done

-- The volume passes, and the line that says so was printed.
pub record PassesInPrint (d : Database) (v : VolumeState) (before after : Option (List ℕ)) : Type 0 where
  pub passed : Passed
  pub passes : IsPassed d v passed
  pub line : Appends before after (passed_line d.name passed)

-- The unload stream of the rows that the volume holds was written, and the line that says how many they are was printed.
pub record UnloadsInPrint (d : Database) (v : VolumeState) (stream_before stream_after before after : Option (List ℕ)) : Type 0 where
  pub segments : ℕ
  pub unloaded : IsUnloaded d v stream_before stream_after segments
  pub line : Appends before after (unloaded_line segments)

-- The bytes are a volume of the stream's rows, and the line that says how many segments and blocks it has was printed.
pub record ReloadsInPrint (d : Database) (stream : List ℕ) (largest : ℕ) (image : List ℕ) (before after : Option (List ℕ)) : Type 0 where
  pub segments : ℕ
  pub blocks : ℕ
  pub reloaded : IsReloaded d stream largest segments blocks image
  pub line : Appends before after (reloaded_line segments blocks)

-- ---- work that is refused

-- A command ended with a refusal of which this is so: it is named, with its status, and with its line where standard error took it.
pub record IsRefused (Says : Refusal → Type 0) (ended : Ended) (before after : Option (List ℕ)) : Type 0 where
  pub refusal : Refusal
  pub named : ended.refusal ≡ Some refusal
  pub says : Says refusal
  pub status : ended.status ≡ status_of refusal
  pub line : ended.told ≡ true → Appends before after (refusal_line refusal)

-- What a refusal of a check or an unload says of the volume: its least fault; or that an access of it failed, or else it holds rows, and
-- it was a write that failed.
abbrev pub VolumeSays : Database → VolumeState → VolumeState → Refusal → Type 0
VolumeSays d old new (Fault fault) = IsTrue old.is_sound → IsFaulty d old fault
VolumeSays d old new (Old version) = ⊥
VolumeSays d old new NotEmpty = ⊥
VolumeSays d old new (Record fault n) = ⊥
VolumeSays d old new (Full n) = ⊥
VolumeSays d old new Device = (old.failures < new.failures) ⊎ (IsTrue old.is_sound → (rows : List Segment) × HoldsRows d old rows)
VolumeSays d old new Memory = Unit {0}

-- What a refusal of a reload says of the stream: its first bad record, or one for which there is no room; or that an access failed, or
-- else the volume was made, and it was a write that failed.
abbrev pub StreamSays : Database → List ℕ → ℕ → Bool → Type 0 → List ℕ → Refusal → Type 0
StreamSays d stream largest is_sound Failed image (Fault fault) = ⊥
StreamSays d stream largest is_sound Failed image (Old version) = ⊥
StreamSays d stream largest is_sound Failed image NotEmpty = ⊥
StreamSays d stream largest is_sound Failed image (Record fault n) = IsRefusedAt d stream n fault
StreamSays d stream largest is_sound Failed image (Full n) = IsTrue is_sound → IsFullAt d stream largest n
StreamSays d stream largest is_sound Failed image Device =
    Failed ⊎ (IsTrue is_sound → (segments : ℕ) × (blocks : ℕ) × IsReloaded d stream largest segments blocks image)
StreamSays d stream largest is_sound Failed image Memory = Unit {0}

-- The same of the store that a reload was given, and which comes back.
abbrev pub StoreSays : {S : Type 0} → (S → Bool) → (S → ℕ) → (S → List ℕ) → Database → List ℕ → ℕ → S → S → Refusal → Type 0
StoreSays is_sound failures contents d stream largest old new = StreamSays d stream largest (is_sound old) (failures old < failures new) (contents new)
