-- What the play of a deck over the volume in a store comes to.
use Rattle.std.specs.Prelude.{◌≡◌, ◌⊎◌, ◌<◌, ℕ, List, Bool, false, IsTrue, ◌==◌, cond, Option}
use Rattle.hd_dbd.specs.Types.{View}
use Rattle.hd_dbd.specs.Hierarchy.{Database}
use Rattle.hd_image.specs.Holding.{volume_of}
use Rattle.hd_check.specs.Checks.{IsFaulty}
use Rattle.hd_session.specs.declared.opening.OpenFault.TheVariants as opening
use Rattle.hd_session.specs.Opening.{IsOpenFaultOf}
use Rattle.hd_deck.specs.StepText.{StepText}
use Rattle.hd_deck.specs.Runs.{turns_of, IsWholeRun, IsPlayedInPart}
use Rattle.hd_commands.specs.declared.refusal.Refusal.{Refusal}
use Rattle.hd_commands.specs.declared.refusal.Refusal.TheVariants.{Fault, Old, NotEmpty, Record, Full, Device, Memory}

-- 4 where so many calls found no memory, if any did
abbrev pub status_of_calls : ℕ → ℕ
status_of_calls memory = cond (memory == 0) 0 4

-- Over a sound store all calls of the steps were made, their lines were printed, and so many of them found no memory.
abbrev pub PlaysInPrint : {S : Type 0} → (S → Bool) → (S → List ℕ) → Database → List View → List StepText → S → S → Option (List ℕ) → Option (List ℕ) → ℕ → Type 0
PlaysInPrint is_sound contents d pcbs steps old new before after memory =
    IsTrue (is_sound old) → IsWholeRun d pcbs (contents old) (turns_of steps) before after memory (contents new)

-- What a refusal of a play says of a store that was sound, whose bytes are as they were but where an access or a write failed: the least fault
-- that stands in them; that their version is not the newest; that they hold rows and a PCB loads; or that some of the calls were made, and it was a write that failed. Of any store it
-- says whether an access failed.
abbrev pub PlaySays : {S : Type 0} → (S → Bool) → (S → ℕ) → (S → List ℕ) → Database → List View → List StepText → S → S → Refusal → Type 0
PlaySays is_sound failures contents d pcbs steps old new (Fault fault) = IsTrue (is_sound old) → IsFaulty d (volume_of d (contents old)) fault × (contents new ≡ contents old)
PlaySays is_sound failures contents d pcbs steps old new (Old version) =
    IsTrue (is_sound old) → IsOpenFaultOf d pcbs (volume_of d (contents old)) (opening.Old version) × (contents new ≡ contents old)
PlaySays is_sound failures contents d pcbs steps old new NotEmpty =
    IsTrue (is_sound old) → IsOpenFaultOf d pcbs (volume_of d (contents old)) opening.NotEmptyForLoad × (contents new ≡ contents old)
PlaySays is_sound failures contents d pcbs steps old new (Record fault n) = ⊥
PlaySays is_sound failures contents d pcbs steps old new (Full n) = ⊥
PlaySays is_sound failures contents d pcbs steps old new Device =
    (failures old < failures new) × (is_sound new ≡ false) ⊎ (IsTrue (is_sound old) → IsPlayedInPart d pcbs (contents old) (turns_of steps) (contents new))
PlaySays is_sound failures contents d pcbs steps old new Memory = IsTrue (is_sound old) → contents new ≡ contents old

-- Meanwhile no access of a store failed, or one did: it was counted, and the store is not sound any more.
abbrev pub FailsOrStays : {S : Type 0} → (S → Bool) → (S → ℕ) → S → S → Type 0
FailsOrStays is_sound failures old new = (is_sound new ≡ is_sound old) × (failures new ≡ failures old) ⊎ (failures old < failures new) × (is_sound new ≡ false)

-- What a refusal of a deck that is played as one unit says of its store: what the refusal of a play says, or that an access failed behind it.
abbrev pub UnitSays : {S : Type 0} → (S → Bool) → (S → ℕ) → (S → List ℕ) → Database → List View → List StepText → S → S → Refusal → Type 0
UnitSays is_sound failures contents d pcbs steps old new (Fault fault) =
    (failures old < failures new) × (is_sound new ≡ false) ⊎ PlaySays is_sound failures contents d pcbs steps old new (Fault fault)
UnitSays is_sound failures contents d pcbs steps old new (Old version) =
    (failures old < failures new) × (is_sound new ≡ false) ⊎ PlaySays is_sound failures contents d pcbs steps old new (Old version)
UnitSays is_sound failures contents d pcbs steps old new NotEmpty =
    (failures old < failures new) × (is_sound new ≡ false) ⊎ PlaySays is_sound failures contents d pcbs steps old new NotEmpty
UnitSays is_sound failures contents d pcbs steps old new (Record fault n) = ⊥
UnitSays is_sound failures contents d pcbs steps old new (Full n) = ⊥
UnitSays is_sound failures contents d pcbs steps old new Device = PlaySays is_sound failures contents d pcbs steps old new Device
UnitSays is_sound failures contents d pcbs steps old new Memory =
    (failures old < failures new) × (is_sound new ≡ false) ⊎ PlaySays is_sound failures contents d pcbs steps old new Memory
