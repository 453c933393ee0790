-- What is known of a store behind a play is known of it behind a write of all that a cache had, and behind a commit.
use Rattle.std.proofs.Common.{◌≡◌, ◌<◌, ◌≤◌, ◌⊎◌, ℕ, List, Bool, true, false, IsTrue, Result, Ok, Err, Some, Option, inl, inr, sym, ◌∙◌, subst, arith}
use Rattle.std.specs.Prelude.{OnOk, OnErr, IfOk, IfErr}
use Rattle.hd_dbd.specs.declared.answer.Refused.{Refused}
use Rattle.hd_dbd.specs.declared.answer.Refused.TheVariants as refused
use Rattle.hd_dbd.specs.Types.{View}
use Rattle.hd_dbd.specs.Hierarchy.{Database}
use Rattle.hd_stores.specs.Stores.{CountsFor, SoundFor}
use Rattle.hd_image.specs.Holding.{volume_of}
use Rattle.hd_check.specs.Checks.{IsFaulty}
use Rattle.hd_session.specs.declared.opening.OpenFault.TheVariants as opening
use Rattle.hd_session.specs.Opening.{IsOpenFaultOf}
use Rattle.hd_deck.specs.StepText.{StepText}
use Rattle.hd_deck.specs.Runs.{turns_of, IsPlayedInPart}
use Rattle.hd_commands.specs.declared.refusal.Refusal.{Refusal}
use Rattle.hd_commands.specs.declared.refusal.Refusal.TheVariants.{Fault, Old, NotEmpty, Record, Full, Device, Memory}
use Rattle.std.specs.Io.KnownBytes.{Appends}
use Rattle.hd_commands.specs.Lines.{refusal_line}
use Rattle.hd_commands.specs.declared.ended.Ended.{Ended}
use Rattle.hd_commands.specs.Commands.{IsRefused}
use Rattle.hd_commands.specs.Units.{IsWritten}
use Rattle.hd_commands.specs.Plays.{PlaySays, UnitSays, FailsOrStays}

-- an access failed, or none did, by the refusal
pub fails-or-stays : (e : Refused) (m n : ℕ) (a b : Bool) → CountsFor e m n → SoundFor e a b → (b ≡ a) × (n ≡ m) ⊎ (m < n) × (b ≡ false)
fails-or-stays refused.Memory m n a b counts sound = inl (sound, counts)
fails-or-stays refused.Full m n a b counts sound = inl (sound, counts)
fails-or-stays refused.Device m n a b counts sound = inr (counts, sound)
fails-or-stays refused.Broken m n a b counts sound = inl (sound, counts)
fails-or-stays refused.Area m n a b counts sound = inl (sound, counts)

-- what a play says is what a unit says, before anything else failed
pub unit-of-play : {S : Type 0} (is_sound : S → Bool) (failures : S → ℕ) (contents : S → List ℕ) (d : Database) (pcbs : List View) (steps : List StepText) (old new : S) (r : Refusal)
    → PlaySays is_sound failures contents d pcbs steps old new r → UnitSays is_sound failures contents d pcbs steps old new r
unit-of-play is_sound failures contents d pcbs steps old new (Fault fault) says = inr says
unit-of-play is_sound failures contents d pcbs steps old new (Old version) says = inr says
unit-of-play is_sound failures contents d pcbs steps old new NotEmpty says = inr says
unit-of-play is_sound failures contents d pcbs steps old new (Record fault n) says = says
unit-of-play is_sound failures contents d pcbs steps old new (Full n) says = says
unit-of-play is_sound failures contents d pcbs steps old new Device says = says
unit-of-play is_sound failures contents d pcbs steps old new Memory says = inr says

-- where an access failed, the refusal of a unit says no more
says-failed : {S T : Type 0} (is_sound : S → Bool) (failures : S → ℕ) (contents : S → List ℕ) (is_sound' : T → Bool) (failures' : T → ℕ) (contents' : T → List ℕ)
    (d : Database) (pcbs : List View) (steps : List StepText) (old new : S) (old' new' : T) (r : Refusal)
    → (failures' old' < failures' new') × (is_sound' new' ≡ false) → UnitSays is_sound failures contents d pcbs steps old new r → UnitSays is_sound' failures' contents' d pcbs steps old' new' r
says-failed is_sound failures contents is_sound' failures' contents' d pcbs steps old new old' new' (Fault fault) failed says = inl failed
says-failed is_sound failures contents is_sound' failures' contents' d pcbs steps old new old' new' (Old version) failed says = inl failed
says-failed is_sound failures contents is_sound' failures' contents' d pcbs steps old new old' new' NotEmpty failed says = inl failed
says-failed is_sound failures contents is_sound' failures' contents' d pcbs steps old new old' new' (Record fault n) failed says = says
says-failed is_sound failures contents is_sound' failures' contents' d pcbs steps old new old' new' (Full n) failed says = says
says-failed is_sound failures contents is_sound' failures' contents' d pcbs steps old new old' new' Device failed says = inl failed
says-failed is_sound failures contents is_sound' failures' contents' d pcbs steps old new old' new' Memory failed says = inl failed

-- where none did, it says the same of two stores of which the same is known
pub says-alike : {S T : Type 0} (is_sound : S → Bool) (failures : S → ℕ) (contents : S → List ℕ) (is_sound' : T → Bool) (failures' : T → ℕ) (contents' : T → List ℕ)
    (d : Database) (pcbs : List View) (steps : List StepText) (old new : S) (old' new' : T) (r : Refusal)
    → is_sound' old' ≡ is_sound old → (IsTrue (is_sound' old') → (contents' old' ≡ contents old) × (contents' new' ≡ contents new))
    → ((failures old < failures new) × (is_sound new ≡ false) → (failures' old' < failures' new') × (is_sound' new' ≡ false)) → UnitSays is_sound failures contents d pcbs steps old new r → UnitSays is_sound' failures' contents' d pcbs steps old' new' r
says-alike is_sound failures contents is_sound' failures' contents' d pcbs steps old new old' new' (Fault fault) sound bytes failed (inl was) = inl (failed was)
says-alike is_sound failures contents is_sound' failures' contents' d pcbs steps old new old' new' (Fault fault) sound bytes failed (inr says) = inr (λ now.
    let told = says (subst IsTrue sound now) in
    let same = bytes now in
    (subst (λ (b : List ℕ). IsFaulty d (volume_of d b) fault) (sym same.0) told.0, same.1 ∙ told.1 ∙ sym same.0))
says-alike is_sound failures contents is_sound' failures' contents' d pcbs steps old new old' new' (Old version) sound bytes failed (inl was) = inl (failed was)
says-alike is_sound failures contents is_sound' failures' contents' d pcbs steps old new old' new' (Old version) sound bytes failed (inr says) = inr (λ now.
    let told = says (subst IsTrue sound now) in
    let same = bytes now in
    (subst (λ (b : List ℕ). IsOpenFaultOf d pcbs (volume_of d b) (opening.Old version)) (sym same.0) told.0, same.1 ∙ told.1 ∙ sym same.0))
says-alike is_sound failures contents is_sound' failures' contents' d pcbs steps old new old' new' NotEmpty sound bytes failed (inl was) = inl (failed was)
says-alike is_sound failures contents is_sound' failures' contents' d pcbs steps old new old' new' NotEmpty sound bytes failed (inr says) = inr (λ now.
    let told = says (subst IsTrue sound now) in
    let same = bytes now in
    (subst (λ (b : List ℕ). IsOpenFaultOf d pcbs (volume_of d b) opening.NotEmptyForLoad) (sym same.0) told.0, same.1 ∙ told.1 ∙ sym same.0))
says-alike is_sound failures contents is_sound' failures' contents' d pcbs steps old new old' new' (Record fault n) sound bytes failed says = says
says-alike is_sound failures contents is_sound' failures' contents' d pcbs steps old new old' new' (Full n) sound bytes failed says = says
says-alike is_sound failures contents is_sound' failures' contents' d pcbs steps old new old' new' Device sound bytes failed (inl was) = inl (failed was)
says-alike is_sound failures contents is_sound' failures' contents' d pcbs steps old new old' new' Device sound bytes failed (inr says) = inr (λ now.
    let told = says (subst IsTrue sound now) in
    let same = bytes now in
    subst (λ (b : List ℕ). IsPlayedInPart d pcbs b (turns_of steps) (contents' new')) (sym same.0)
    (subst (λ (b : List ℕ). IsPlayedInPart d pcbs (contents old) (turns_of steps) b) (sym same.1) told))
says-alike is_sound failures contents is_sound' failures' contents' d pcbs steps old new old' new' Memory sound bytes failed (inl was) = inl (failed was)
says-alike is_sound failures contents is_sound' failures' contents' d pcbs steps old new old' new' Memory sound bytes failed (inr says) = inr (λ now.
    let told = says (subst IsTrue sound now) in
    let same = bytes now in
    same.1 ∙ told ∙ sym same.0)

-- what a write that failed says of the store below
write-fails : (e : Refused) (is_sound : Bool) (failures : ℕ) (contents : List ℕ) (is_sound' : Bool) (failures' : ℕ) (contents' : List ℕ)
    → IsWritten (Err e) is_sound failures contents is_sound' failures' contents' → (failures < failures') × (is_sound' ≡ false)
write-fails e is_sound failures contents is_sound' failures' contents' w = (
  subst (λ (r : Refused). CountsFor r failures failures') w.refusal w.counts,
  subst (λ (r : Refused). SoundFor r is_sound is_sound') w.refusal w.sound,
)

-- so it is of the store before
pub unwritten : (result : Result Unit Refused) (is_sound : Bool) (failures : ℕ) (contents : List ℕ) (is_sound' : Bool) (failures' : ℕ) (contents' : List ℕ) (before : ℕ)
    → before ≤ failures → IsWritten result is_sound failures contents is_sound' failures' contents' → OnErr result ((before < failures') × (is_sound' ≡ false))
unwritten (Ok x) is_sound failures contents is_sound' failures' contents' before less w = tt
unwritten (Err e) is_sound failures contents is_sound' failures' contents' before less w =
    let fails = write-fails e is_sound failures contents is_sound' failures' contents' w in
    (omega (arith, less, fails.0), fails.1)

-- failed accesses are counted
pub no-fewer : {S : Type 0} (is_sound : S → Bool) (failures : S → ℕ) (old new : S) → FailsOrStays is_sound failures old new → failures old ≤ failures new
no-fewer is_sound failures old new (inl stays) = omega (arith, stays.1)
no-fewer is_sound failures old new (inr fails) = omega (arith, fails.0)

-- behind a write an access has failed, or none has
pub accesses-on : {S T : Type 0} (is_sound : S → Bool) (failures : S → ℕ) (is_sound' : T → Bool) (failures' : T → ℕ) (old new : S) (old' new' : T) (contents contents' : List ℕ) (result : Result Unit Refused)
    → is_sound' old' ≡ is_sound old → failures' old' ≡ failures old → IsWritten result (is_sound new) (failures new) contents (is_sound' new') (failures' new') contents'
    → FailsOrStays is_sound failures old new → FailsOrStays is_sound' failures' old' new'
accesses-on is_sound failures is_sound' failures' old new old' new' contents contents' (Ok x) sound count w (inl stays) = inl (w.sound ∙ stays.0 ∙ sym sound, w.counts ∙ stays.1 ∙ sym count)
accesses-on is_sound failures is_sound' failures' old new old' new' contents contents' (Ok x) sound count w (inr fails) = inr (omega (arith, w.counts, fails.0, count), w.sound ∙ fails.1)
accesses-on is_sound failures is_sound' failures' old new old' new' contents contents' (Err e) sound count w accesses =
    let less : failures old ≤ failures new = no-fewer is_sound failures old new accesses in
    let fails = write-fails e (is_sound new) (failures new) contents (is_sound' new') (failures' new') contents' w in
    inr (omega (arith, less, fails.0, count), fails.1)

-- behind a write a refusal says what it said before
pub says-on : {S T : Type 0} (is_sound : S → Bool) (failures : S → ℕ) (contents : S → List ℕ) (is_sound' : T → Bool) (failures' : T → ℕ) (contents' : T → List ℕ)
    (d : Database) (pcbs : List View) (steps : List StepText) (old new : S) (old' new' : T) (result : Result Unit Refused) (r : Refusal)
    → is_sound' old' ≡ is_sound old → failures' old' ≡ failures old → (IsTrue (is_sound' old') → contents' old' ≡ contents old)
    → IsWritten result (is_sound new) (failures new) (contents new) (is_sound' new') (failures' new') (contents' new')
    → FailsOrStays is_sound failures old new → UnitSays is_sound failures contents d pcbs steps old new r → UnitSays is_sound' failures' contents' d pcbs steps old' new' r
says-on is_sound failures contents is_sound' failures' contents' d pcbs steps old new old' new' (Ok x) r sound count bytes w (inl stays) says =
    says-alike is_sound failures contents is_sound' failures' contents' d pcbs steps old new old' new' r sound
    (λ now. (bytes now, w.contents_kept (subst IsTrue (sym stays.0) (subst IsTrue sound now))))
    (λ fails. (omega (arith, w.counts, fails.0, count), w.sound ∙ fails.1)) says
says-on is_sound failures contents is_sound' failures' contents' d pcbs steps old new old' new' (Ok x) r sound count bytes w (inr fails) says =
    says-failed is_sound failures contents is_sound' failures' contents' d pcbs steps old new old' new' r (omega (arith, w.counts, fails.0, count), w.sound ∙ fails.1) says
says-on is_sound failures contents is_sound' failures' contents' d pcbs steps old new old' new' (Err e) r sound count bytes w accesses says =
    let less : failures old ≤ failures new = no-fewer is_sound failures old new accesses in
    let fails = write-fails e (is_sound new) (failures new) (contents new) (is_sound' new') (failures' new') (contents' new') w in
    says-failed is_sound failures contents is_sound' failures' contents' d pcbs steps old new old' new' r (omega (arith, less, fails.0, count), fails.1) says

-- a command that was refused, where what one refusal says another says too
pub refused-on : (result : Result ℕ Ended) (A B : Refusal → Type 0) (before after : Option (List ℕ)) → ((r : Refusal) → A r → B r)
    → IfErr result (λ e. IsRefused A e before after) → IfErr result (λ e. IsRefused B e before after)
refused-on (Ok x) A B before after says is = tt
refused-on (Err e) A B before after says is = record { refusal = is.refusal; named = is.named; says = says is.refusal is.says; status = is.status; line = is.line }

-- what is said of an Ok is so where a call answers it, and so with an Err
pub on-ok : {A B P : Type 0} (result : Result A B) (x : A) → result ≡ Ok x → OnOk result P → P
on-ok {P = P} result x is holds = subst (λ r. OnOk r P) is holds

pub if-ok : {A B : Type 0} (P : A → Type 0) (result : Result A B) (x : A) → result ≡ Ok x → IfOk result P → P x
if-ok P result x is holds = subst (λ r. IfOk r P) is holds

pub on-err : {A B P : Type 0} (result : Result A B) (e : B) → result ≡ Err e → OnErr result P → P
on-err {P = P} result e is holds = subst (λ r. OnErr r P) is holds

-- the same of a refusal
pub refused-as : (result : Result ℕ Ended) (ended : Ended) (A B : Refusal → Type 0) (before after : Option (List ℕ)) → result ≡ Err ended → ((r : Refusal) → A r → B r)
    → IfErr result (λ e. IsRefused A e before after) → IsRefused B ended before after
refused-as result ended A B before after is says refused = subst (λ (r : Result ℕ Ended). IfErr r (λ e. IsRefused B e before after)) is (refused-on result A B before after says refused)

-- a command that was refused for a failed access, behind work that said nothing
pub device-refused : {W : Type 0} (contents : W → Option (List ℕ)) (A : Refusal → Type 0) (ended : Ended) (first before after : W) → ended.status ≡ 3 → ended.refusal ≡ Some Device
    → (ended.told ≡ true → Appends (contents before) (contents after) (refusal_line Device)) → before ≡ first → A Device → IsRefused A ended (contents first) (contents after)
device-refused contents A ended first before after status named line same says = record {
  refusal = Device;
  named = named;
  says = says;
  status = status;
  line = λ told. subst (λ w. Appends (contents w) (contents after) (refusal_line Device)) same (line told);
}
