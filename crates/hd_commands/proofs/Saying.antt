-- What the refusals of the calls below say, in the words of the commands.
use Rattle.std.proofs.Common.{◌<◌, ℕ, List, Bool, IsTrue, Err, inl, inr, refl}
use Rattle.hd_dbd.specs.Types.{View}
use Rattle.hd_dbd.specs.Hierarchy.{Database}
use Rattle.hd_volume.specs.Volumes.{VolumeState}
use Rattle.hd_stores.specs.Stores.{CountsFor, SoundFor}
use Rattle.hd_volume.specs.Calls.{IsRead}
use Rattle.hd_links.specs.Steps.{rows_of}
use Rattle.hd_check.specs.declared.checks.CheckFault.{CheckFault}
use Rattle.hd_check.specs.declared.checks.CheckFault.TheVariants as check
use Rattle.hd_check.specs.Checks.{IsFaultOf, as_call}
use Rattle.hd_unload.specs.declared.fault.ReloadFault.{ReloadFault}
use Rattle.hd_unload.specs.declared.fault.ReloadFault.TheVariants as reload
use Rattle.hd_unload.specs.declared.unloads.UnloadFault.{UnloadFault}
use Rattle.hd_unload.specs.declared.unloads.UnloadFault.TheVariants as unload
use Rattle.hd_unload.specs.Refusals.{refused_by}
use Rattle.hd_unload.specs.Refusals as reloads
use Rattle.hd_unload.specs.Unloads.{IsUnloadFaultOf, unload_call}
use Rattle.hd_session.specs.declared.opening.OpenFault.TheVariants as opening
use Rattle.hd_deck.specs.declared.runs.RunFault.{RunFault}
use Rattle.hd_deck.specs.declared.runs.RunFault.TheVariants as run
use Rattle.hd_deck.specs.StepText.{StepText}
use Rattle.hd_deck.specs.Runs.{turns_of, IsRunFaultOf, fault_refusal}
use Rattle.hd_commands.specs.Refusals.{of_check, of_unload, of_reload, of_run}
use Rattle.hd_commands.specs.Commands.{VolumeSays, StreamSays}
use Rattle.hd_commands.specs.Plays.{PlaySays}

-- a reload's fault says what the command says
pub reload-says : (d : Database) (stream : List ℕ) (largest : ℕ) (is_sound : Bool) (image : List ℕ) (m n : ℕ) (fault : ReloadFault)
    → reloads.IsFaultOf d stream largest is_sound fault → CountsFor (refused_by fault) m n → StreamSays d stream largest is_sound (m < n) image (of_reload fault)
reload-says d stream largest is_sound image m n (reload.Record fault k) says counts = says
reload-says d stream largest is_sound image m n (reload.Full k) says counts = says
reload-says d stream largest is_sound image m n reload.Memory says counts = tt
reload-says d stream largest is_sound image m n reload.Device says counts = inl counts

-- a check's fault does
pub check-says : {T : Type 0} (d : Database) (u v : VolumeState) (fault : CheckFault)
    → (IsTrue u.is_sound → IsFaultOf d u fault) → IsRead u (as_call {T = T} (Err fault)) v → VolumeSays d u v (of_check fault)
check-says d u v (check.Fault fault) says read = says
check-says d u v check.Memory says read = tt
check-says d u v check.Device says read = inl read.call.counts

-- an unload's fault does
pub unload-says : {T : Type 0} (d : Database) (u v : VolumeState) (fault : UnloadFault)
    → (IsTrue u.is_sound → IsUnloadFaultOf d u fault) → IsRead u (unload_call {T = T} (Err fault)) v → VolumeSays d u v (of_unload fault)
unload-says {T = T} d u v (unload.Check fault) says read = check-says {T = T} d u v fault says read
unload-says d u v unload.Write says read = inr (λ sound. let p = (says sound).1 in (rows_of p.placed, (p.placed, refl, p.holds)))
unload-says d u v unload.Changed says read = inr (λ sound. absurd (says sound))

-- a run's fault does
pub play-says : {S : Type 0} (is_sound : S → Bool) (failures : S → ℕ) (contents : S → List ℕ) (d : Database) (pcbs : List View) (steps : List StepText) (old new : S) (fault : RunFault)
    → (IsTrue (is_sound old) → IsRunFaultOf d pcbs (contents old) (turns_of steps) (contents new) fault) → CountsFor (fault_refusal fault) (failures old) (failures new)
    → SoundFor (fault_refusal fault) (is_sound old) (is_sound new)
    → PlaySays is_sound failures contents d pcbs steps old new (of_run fault)
play-says is_sound failures contents d pcbs steps old new (run.Open (opening.Check fault)) says counts stays = λ sound. let told = says sound in (told.0, told.1 (λ e. cc))
play-says is_sound failures contents d pcbs steps old new (run.Open (opening.Old version)) says counts stays = λ sound. let told = says sound in (told.0, told.1 (λ e. cc))
play-says is_sound failures contents d pcbs steps old new (run.Open opening.NotEmptyForLoad) says counts stays = λ sound. let told = says sound in (told.0, told.1 (λ e. cc))
play-says is_sound failures contents d pcbs steps old new (run.Open opening.Memory) says counts stays = λ sound. let told = says sound in told.1 (λ e. cc)
play-says is_sound failures contents d pcbs steps old new (run.Open opening.Device) says counts sound = inl (counts, sound)
play-says is_sound failures contents d pcbs steps old new run.Memory says counts sound = says
play-says is_sound failures contents d pcbs steps old new run.Device says counts sound = inl (counts, sound)
play-says is_sound failures contents d pcbs steps old new run.Write says counts sound = inr says
