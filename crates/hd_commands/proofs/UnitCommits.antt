-- What a play with commits among its calls comes to, and behind a last commit.
use Rattle.std.proofs.Common.{◌≡◌, ◌≤◌, ◌⊎◌, ◌+◌, ℕ, List, [], ◌∷◌, ◌++◌, length, take, Bool, true, false, IsTrue, Result, Ok, Err, Some, Option, refl, inl, inr, sym, ◌∙◌, ap, subst, arith}
use Rattle.std.specs.Prelude.{IfOk, IfErr, unwrap_or}
use Rattle.std.proofs.lemmas.List.{append-nil, length-append, take_at}
use Rattle.hd_dbd.specs.Types.{View}
use Rattle.hd_dbd.specs.Hierarchy.{Database}
use Rattle.std.specs.Io.KnownBytes.{Appends}
use Rattle.hd_dbd.specs.Logs.{Log}
use Rattle.hd_deck.specs.Printing.{print}
use Rattle.hd_stores.specs.Stores.{Committed, CountsFor, SoundFor, FailsCommit, IsCommit}
use Rattle.hd_session.specs.Turns.{Turn}
use Rattle.hd_session.specs.Requests.{Request, commit, calls_in}
use Rattle.hd_session.proofs.Requests.{calls_append}
use Rattle.hd_session.specs.declared.opening.OpenFault.TheVariants as opening
use Rattle.hd_deck.specs.declared.runs.RunFault.{RunFault}
use Rattle.hd_deck.specs.declared.runs.RunFault.TheVariants as run
use Rattle.hd_deck.specs.StepText.{StepText}
use Rattle.hd_deck.specs.Runs.{turns_of, memory_in, IsPlayed, IsPlayedInPart, fault_refusal}
use Rattle.hd_deck.specs.Commits.{Stored, stored_in, requests_from, IsDone, IsRunDone, IsDoneInPart, IsBrokenInPart, IsDoneUntilFault}
use Rattle.hd_deck.proofs.Requests.{calls_of_requests}
use Rattle.hd_journal.specs.Journals.{IsCommitted}
use Rattle.hd_commands.specs.declared.ended.Ended.{Ended}
use Rattle.hd_commands.specs.declared.refusal.Refusal.{Refusal}
use Rattle.hd_commands.specs.declared.refusal.Refusal.TheVariants.{Device}
use Rattle.hd_commands.specs.Refusals.{of_run}
use Rattle.hd_commands.specs.Units.{MayCommit, unit_requests, UnitCommits}
use Rattle.hd_commands.specs.Plays.{PlaySays, FailsOrStays}
use Rattle.hd_commands.proofs.Commits.{committed_done, committed_log}

-- ---- requests that were carried out in part

-- all of them are some of them
pub all_in_part : (d : Database) (pcbs : List View) (store left : Stored) (requests : List Request) → IsDone d pcbs store requests left → IsDoneInPart d pcbs store requests left
all_in_part d pcbs store left requests done = record { first = requests; rest = []; parts = sym (append-nil requests); done = done }

-- some of them, up to an access that did not fail
pub broken_part : (d : Database) (pcbs : List View) (store left : Stored) (requests : List Request) → IsDoneInPart d pcbs store requests left → IsBrokenInPart d pcbs store requests left
broken_part d pcbs store left requests part = record { first = part.first; rest = part.rest; parts = part.parts; done = record { last = left; done = part.done; fails = inl refl } }

take-front : {A : Type 0} (xs ys zs : List A) → zs ≡ xs ++ ys → take (length xs) zs ≡ xs
take-front xs ys zs is = ap (λ l. take (length xs) l) is ∙ take_at xs ys (length xs) refl

few-front : {A : Type 0} (xs ys zs : List A) → zs ≡ xs ++ ys → length xs ≤ length zs
few-front xs ys zs is = let e : length zs ≡ length xs + length ys = ap (λ l. length l) is ∙ length-append xs ys in omega (arith, e)

-- the calls among them are the first calls of the deck
pub played_part : (d : Database) (pcbs : List View) (store left : Stored) (every : Option ℕ) (turns : List Turn) → IsDoneInPart d pcbs store (requests_from every 1 turns) left
    → IsPlayedInPart d pcbs store.bytes turns left.bytes
played_part d pcbs store left every turns part =
    let parts : turns ≡ calls_in part.first ++ calls_in part.rest = sym (calls_of_requests every 1 turns) ∙ (ap calls_in part.parts ∙ calls_append part.first part.rest) in
    record {
      made = length (calls_in part.first);
      some = few-front (calls_in part.first) (calls_in part.rest) turns parts;
      log = part.done.log;
      played = subst (λ (made : List Turn). IsPlayed d pcbs store.bytes made part.done.log left.bytes) (sym (take-front (calls_in part.first) (calls_in part.rest) turns parts)) part.done.played;
    }

-- ---- a run that ended early

-- it says what a play says
pub commit-says : {S : Type 0} (is_sound : S → Bool) (failures : S → ℕ) (contents : S → List ℕ) (committed : S → Committed) (d : Database) (pcbs : List View) (steps : List StepText) (every : Option ℕ) (old new : S) (fault : RunFault)
    → (IsTrue (is_sound old) → IsDoneUntilFault d pcbs (stored_in contents committed old) (requests_from every 1 (turns_of steps)) (stored_in contents committed new) fault)
    → CountsFor (fault_refusal fault) (failures old) (failures new) → SoundFor (fault_refusal fault) (is_sound old) (is_sound new) → PlaySays is_sound failures contents d pcbs steps old new (of_run fault)
commit-says is_sound failures contents committed d pcbs steps every old new (run.Open (opening.Check fault)) says counts stays = λ sound. let told = says sound in (told.1, told.2 (λ e. cc))
commit-says is_sound failures contents committed d pcbs steps every old new (run.Open (opening.Old version)) says counts stays = λ sound. let told = says sound in (told.1, told.2 (λ e. cc))
commit-says is_sound failures contents committed d pcbs steps every old new (run.Open opening.NotEmptyForLoad) says counts stays = λ sound. let told = says sound in (told.1, told.2 (λ e. cc))
commit-says is_sound failures contents committed d pcbs steps every old new (run.Open opening.Memory) says counts stays = λ sound. let told = says sound in told.2 (λ e. cc)
commit-says is_sound failures contents committed d pcbs steps every old new (run.Open opening.Device) says counts stays = inl (counts, stays)
commit-says is_sound failures contents committed d pcbs steps every old new run.Memory says counts stays = λ sound. (says sound).1
commit-says is_sound failures contents committed d pcbs steps every old new run.Device says counts stays = inl (counts, stays)
commit-says is_sound failures contents committed d pcbs steps every old new run.Write says counts stays =
    inr (λ sound. played_part d pcbs (stored_in contents committed old) (stored_in contents committed new) every (turns_of steps) (says sound))

false-true : false ≡ true → ⊥
false-true e = cc

-- where it is a device fault of a store that is still sound, it was a write that failed, and what the first of the requests left is there
pub part-at-write : (d : Database) (pcbs : List View) (store left : Stored) (requests : List Request) (fault : RunFault) (sound sound' : Bool)
    → IsDoneUntilFault d pcbs store requests left fault → SoundFor (fault_refusal fault) sound sound' → of_run fault ≡ Device → IsTrue sound' → IsDoneInPart d pcbs store requests left
part-at-write d pcbs store left requests (run.Open (opening.Check fault)) sound sound' says stays device now = let never : ⊥ = cc in absurd never
part-at-write d pcbs store left requests (run.Open (opening.Old version)) sound sound' says stays device now = let never : ⊥ = cc in absurd never
part-at-write d pcbs store left requests (run.Open opening.NotEmptyForLoad) sound sound' says stays device now = let never : ⊥ = cc in absurd never
part-at-write d pcbs store left requests (run.Open opening.Memory) sound sound' says stays device now = let never : ⊥ = cc in absurd never
part-at-write d pcbs store left requests (run.Open opening.Device) sound sound' says stays device now = absurd (false-true (sym stays ∙ now))
part-at-write d pcbs store left requests run.Memory sound sound' says stays device now = let never : ⊥ = cc in absurd never
part-at-write d pcbs store left requests run.Device sound sound' says stays device now = absurd (false-true (sym stays ∙ now))
part-at-write d pcbs store left requests run.Write sound sound' says stays device now = says

-- what it adds to the commits
pub commits-until : (d : Database) (pcbs : List View) (store left : Stored) (requests : List Request) (fault : RunFault) → IsDoneUntilFault d pcbs store requests left fault
    → (left.committed ≡ store.committed) ⊎ IsBrokenInPart d pcbs store requests left
commits-until d pcbs store left requests (run.Open fault) says = inl says.0
commits-until d pcbs store left requests run.Memory says = inl says.0
commits-until d pcbs store left requests run.Device says = says
commits-until d pcbs store left requests run.Write says = inr (broken_part d pcbs store left requests says)

-- a refusal that is named by two names has one
pub same-refusal : (named : Option Refusal) (r s : Refusal) → named ≡ Some r → named ≡ Some s → r ≡ s
same-refusal named r s is also = ap (λ (o : Option Refusal). unwrap_or o r) (sym is ∙ also)

-- what is said of an Err is so of the one that a call answers
pub if-err : {A B : Type 0} (P : B → Type 0) (result : Result A B) (e : B) → result ≡ Err e → IfErr result P → P e
if-err P result e is holds = subst (λ r. IfErr r P) is holds

-- where no access failed the store is as sound as it was
pub stays-sound : {S : Type 0} (is_sound : S → Bool) (failures : S → ℕ) (old new : S) → FailsOrStays is_sound failures old new → failures new ≡ failures old → is_sound new ≡ is_sound old
stays-sound is_sound failures old new (inl stays) none = stays.0
stays-sound is_sound failures old new (inr fails) none = absurd (omega (arith, none, fails.0))

-- ---- the last commit

-- where a commit is wanted behind a play, the first of the requests were carried out, and what they left is there
pub wanted-part : (d : Database) (pcbs : List View) (store mid : Stored) (requests : List Request) (played : Result ℕ Ended) (first last : Option (List ℕ)) (sound sound' : Bool)
    → IsTrue sound → IsTrue sound' → IfErr played (λ e. e.refusal ≡ Some Device) → IfOk played (λ memory. IsTrue sound → IsRunDone d pcbs store requests first last memory mid)
    → IfErr played (λ e. e.refusal ≡ Some Device → IsTrue sound → IsTrue sound' → IsDoneInPart d pcbs store requests mid) → IsDoneInPart d pcbs store requests mid
wanted-part d pcbs store mid requests (Ok memory) first last sound sound' now still device done part = all_in_part d pcbs store mid requests (done now).done
wanted-part d pcbs store mid requests (Err e) first last sound sound' now still device done part = part device now still

-- what a deck adds to the commits
pub unit-commits : (d : Database) (pcbs : List View) (store mid : Stored) (every : Option ℕ) (turns : List Turn) (wanted sound : Bool) (new : Committed)
    → (mid.committed ≡ store.committed) ⊎ IsBrokenInPart d pcbs store (requests_from every 1 turns) mid
    → (wanted ≡ true → IsTrue sound → IsDoneInPart d pcbs store (requests_from every 1 turns) mid) → MayCommit wanted sound mid.bytes mid.committed new → UnitCommits d pcbs store every turns new
unit-commits d pcbs store mid every turns wanted sound new (inl same) part (inl still) = inl (still ∙ same)
unit-commits d pcbs store mid every turns wanted sound new (inr broken) part (inl still) = inr (record {
  first = broken.first;
  rest = broken.rest;
  parts = broken.parts;
  requests = broken.first;
  carried = inl refl;
  bytes = mid.bytes;
  done = record {
    last = broken.done.last;
    done = broken.done.done;
    fails = subst (λ (c : Committed). FailsCommit true broken.done.last.bytes broken.done.last.committed c) (sym still) broken.done.fails;
  };
})
unit-commits d pcbs store mid every turns wanted sound new added part (inr (want, now, inl is)) =
    let some : IsDoneInPart d pcbs store (requests_from every 1 turns) mid = part want now in
    inr (record {
      first = some.first;
      rest = some.rest;
      parts = some.parts;
      requests = some.first ++ commit ∷ [];
      carried = inr refl;
      bytes = mid.bytes;
      done = record { last = record { bytes = mid.bytes; committed = new }; done = committed_done d pcbs store some.first mid some.done new is; fails = inl refl };
    })
unit-commits d pcbs store mid every turns wanted sound new added part (inr (want, now, inr tried)) =
    let some : IsDoneInPart d pcbs store (requests_from every 1 turns) mid = part want now in
    inr (record { first = some.first; rest = some.rest; parts = some.parts; requests = some.first; carried = inl refl; bytes = mid.bytes; done = record { last = mid; done = some.done; fails = inr (refl, tried) } })

-- a run and the commit behind it
pub unit-done : (d : Database) (pcbs : List View) (store mid : Stored) (every : Option ℕ) (turns : List Turn) (first last : Option (List ℕ)) (memory : ℕ) (sound : Bool) (contents : List ℕ) (new : Committed) → IsTrue sound
    → IsRunDone d pcbs store (requests_from every 1 turns) first last memory mid → IsCommit sound mid.bytes contents mid.committed new
    → IsRunDone d pcbs store (unit_requests every turns) first last memory (record { bytes = contents; committed = new })
unit-done d pcbs store mid every turns first last memory sound contents new now run is =
    let made = is now in
    let committed : IsCommitted mid.bytes mid.committed new = (made.1, made.2, made.3) in
    subst (λ (bytes : List ℕ). IsRunDone d pcbs store (unit_requests every turns) first last memory (record { bytes = bytes; committed = new })) (sym made.0)
    (record {
      done = committed_done d pcbs store (requests_from every 1 turns) mid run.done new committed;
      printed = subst (λ (log : Log (List ℕ)). Appends first last (print log)) (sym (committed_log d pcbs store (requests_from every 1 turns) mid run.done new committed)) run.printed;
      memory = subst (λ (log : Log (List ℕ)). memory ≡ memory_in log.entries) (sym (committed_log d pcbs store (requests_from every 1 turns) mid run.done new committed)) run.memory;
    })
