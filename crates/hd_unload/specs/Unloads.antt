-- What is written of a volume, and what the calls that write it say of its store.
use Rattle.std.specs.Prelude.{◌≡◌, ℕ, List, length, Option, Result, Ok, Err}
use Rattle.std.specs.Io.KnownBytes.{Appends}
use Rattle.hd_dbd.specs.declared.answer.Refused.{Refused}
use Rattle.hd_dbd.specs.declared.answer.Refused.TheVariants as refused
use Rattle.hd_dbd.specs.Hierarchy.{Database}
use Rattle.hd_dbd.specs.Segment.{Segment}
use Rattle.hd_volume.specs.Volumes.{VolumeState}
use Rattle.hd_image.specs.Holding.{HoldsRows}
use Rattle.hd_check.specs.declared.checks.CheckFault.TheVariants as check
use Rattle.hd_check.specs.declared.checks.Passed.{Passed}
use Rattle.hd_check.specs.Checks.{IsPassed, IsFaultOf, as_call}
use Rattle.hd_unload.specs.declared.fault.StreamFault.{StreamFault}
use Rattle.hd_unload.specs.declared.fault.StreamFault.TheVariants as stream
use Rattle.hd_unload.specs.declared.unloads.UnloadFault.{UnloadFault}
use Rattle.hd_unload.specs.declared.unloads.UnloadFault.TheVariants as unload
use Rattle.hd_unload.specs.Streams.{unload_bytes}

-- The unload stream of the rows that the volume holds was written behind what stood there, and they are so many.
pub record IsUnloaded (d : Database) (v : VolumeState) (before after : Option (List ℕ)) (segments : ℕ) : Type 0 where
  pub rows : List Segment
  pub holds : HoldsRows d v rows
  pub stream : Appends before after (unload_bytes d rows)
  pub segments_are : segments ≡ length rows

-- what the result of a write is, as far as the volume's store goes: only Device says that an access of it failed
abbrev pub stream_call : {T : Type 0} → Result T StreamFault → Result T Refused
stream_call (Ok x) = Ok x
stream_call (Err stream.Device) = Err refused.Device
stream_call (Err stream.Write) = Err refused.Full

-- the same of an unload's result
abbrev pub unload_call : {T : Type 0} → Result T UnloadFault → Result T Refused
unload_call (Ok x) = Ok x
unload_call (Err (unload.Check fault)) = as_call (Err fault)
unload_call (Err unload.Write) = Err refused.Full
unload_call (Err unload.Changed) = Err refused.Full

-- What a refusal of an unload says of the volume: a fault is the least that stands in it, as a check's is; where a write failed it
-- passes; and where the store returns what was written, it is not changed meanwhile.
abbrev pub IsUnloadFaultOf : Database → VolumeState → UnloadFault → Type 0
IsUnloadFaultOf d v (unload.Check fault) = IsFaultOf d v fault
IsUnloadFaultOf d v unload.Write = (passed : Passed) × IsPassed d v passed
IsUnloadFaultOf d v unload.Changed = ⊥

-- The refusal comes before the first byte is written.
abbrev pub ComesFirst : UnloadFault → Type 0
ComesFirst (unload.Check (check.Fault fault)) = Unit {0}
ComesFirst (unload.Check check.Memory) = Unit {0}
ComesFirst (unload.Check check.Device) = ⊥
ComesFirst unload.Write = ⊥
ComesFirst unload.Changed = ⊥
