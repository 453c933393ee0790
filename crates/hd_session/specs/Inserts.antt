-- ISRT: its arguments, and what it answers by a PCB that does not load.
use Rattle.std.specs.Prelude.{◌≡◌, ℕ, List, false, Ok}
use Rattle.hd_dbd.specs.Types.{View}
use Rattle.hd_dbd.specs.Hierarchy.{Database}
use Rattle.hd_dbd.specs.Calls.{Reply}
use Rattle.hd_calls.specs.declared.call.Function.TheVariants.{Insert}
use Rattle.hd_calls.specs.Access.{loads}
use Rattle.hd_calls.specs.Ssas.{Ssa, resolve}
use Rattle.hd_volume.specs.Volumes.{VolumeState}
use Rattle.hd_position.specs.Kept.{Kept}
use Rattle.hd_update.specs.Inserting.{insert_effect}
use Rattle.hd_session.specs.Sessions.{IsStepDone}

-- the arguments are those of an ISRT by this PCB
abbrev pub AreArgumentsOf : Database → View → List Ssa → Type 0
AreArgumentsOf d pcb ssas = (texts : List (List ℕ)) × (resolve (record { types = d.types; pcb = pcb }) Insert texts ≡ Ok ssas)

-- ISRT was answered, under whatever PCB that does not load
abbrev pub IsInsertStep : Database → VolumeState → List Kept → ℕ → List Ssa → List ℕ → Reply → VolumeState → List Kept → Type 0
IsInsertStep d v old number ssas area reply w new =
    (pcb : View) → loads pcb ≡ false → IsStepDone d v old number (insert_effect d pcb number ssas area) reply w new
