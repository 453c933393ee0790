-- Which refusal of a command a fault of the calls below is.
use Rattle.hd_dbd.specs.declared.answer.Refused.{Refused}
use Rattle.hd_dbd.specs.declared.answer.Refused.TheVariants as refused
use Rattle.hd_check.specs.declared.checks.CheckFault.{CheckFault}
use Rattle.hd_check.specs.declared.checks.CheckFault.TheVariants as check
use Rattle.hd_unload.specs.declared.unloads.UnloadFault.{UnloadFault}
use Rattle.hd_unload.specs.declared.unloads.UnloadFault.TheVariants as unload
use Rattle.hd_unload.specs.declared.fault.ReloadFault.{ReloadFault}
use Rattle.hd_unload.specs.declared.fault.ReloadFault.TheVariants as reload
use Rattle.hd_session.specs.declared.opening.OpenFault.TheVariants as opening
use Rattle.hd_deck.specs.declared.runs.RunFault.{RunFault}
use Rattle.hd_deck.specs.declared.runs.RunFault.TheVariants as run
use Rattle.hd_commands.specs.declared.refusal.Refusal.{Refusal}
use Rattle.hd_commands.specs.declared.refusal.Refusal.TheVariants.{Fault, Old, NotEmpty, Record, Full, Device, Memory}

-- of a check
abbrev pub of_check : CheckFault → Refusal
of_check (check.Fault fault) = Fault fault
of_check check.Memory = Memory
of_check check.Device = Device

-- of an unload; a failed write and a volume that was changed meanwhile are device faults
abbrev pub of_unload : UnloadFault → Refusal
of_unload (unload.Check fault) = of_check fault
of_unload unload.Write = Device
of_unload unload.Changed = Device

-- of a reload
abbrev pub of_reload : ReloadFault → Refusal
of_reload (reload.Record fault n) = Record fault n
of_reload (reload.Full n) = Full n
of_reload reload.Memory = Memory
of_reload reload.Device = Device

-- of a run; a failed write is a device fault
abbrev pub of_run : RunFault → Refusal
of_run (run.Open (opening.Check fault)) = Fault fault
of_run (run.Open (opening.Old version)) = Old version
of_run (run.Open opening.NotEmptyForLoad) = NotEmpty
of_run (run.Open opening.Memory) = Memory
of_run (run.Open opening.Device) = Device
of_run run.Memory = Memory
of_run run.Device = Device
of_run run.Write = Device

-- of a volume that could not be opened
abbrev pub of_refused : Refused → Refusal
of_refused refused.Memory = Memory
of_refused refused.Full = Device
of_refused refused.Device = Device
of_refused refused.Broken = Device
of_refused refused.Area = Device
