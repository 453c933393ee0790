-- What ISRT answers by a PCB that loads.
use Rattle.std.specs.Prelude.{ℕ, List}
use Rattle.hd_dbd.specs.Types.{View}
use Rattle.hd_dbd.specs.Hierarchy.{Database}
use Rattle.hd_dbd.specs.Calls.{Reply}
use Rattle.hd_calls.specs.Ssas.{Ssa}
use Rattle.hd_volume.specs.Volumes.{VolumeState}
use Rattle.hd_position.specs.Kept.{Kept}
use Rattle.hd_update.specs.Inserting.{insert_effect}
use Rattle.hd_update.specs.Loading.{InsertsOne}
use Rattle.hd_session.specs.Sessions.{IsStepDone}

-- a load was answered, under whatever PCB that loads and arguments that insert one row of the type
abbrev pub IsLoadStep : Database → VolumeState → List Kept → ℕ → ℕ → List ℕ → Reply → VolumeState → List Kept → Type 0
IsLoadStep d v old number code area reply w new =
    (pcb : View) (ssas : List Ssa) → InsertsOne pcb ssas code → IsStepDone d v old number (insert_effect d pcb number ssas area) reply w new
