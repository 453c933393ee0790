-- What calls with commits among them come to over a store: the log of the calls, and what the commits made last.
use Rattle.std.specs.Prelude.{◌≡◌, ◌≢◌, ◌⊎◌, IsTrue, ℕ, ◌+◌, ◌%◌, ◌&&◌, ◌==◌, nat_lt, cond, List, [], ◌∷◌, ◌++◌, Bool, true, false, Option, Some, None}
use Rattle.std.specs.Io.KnownBytes.{Appends}
use Rattle.hd_dbd.specs.Types.{View}
use Rattle.hd_dbd.specs.Hierarchy.{Database}
use Rattle.hd_dbd.specs.Logs.{Entry, Log}
use Rattle.hd_calls.specs.Steps.{State}
use Rattle.hd_stores.specs.Stores.{Committed, FailsCommit}
use Rattle.hd_dbd.specs.Facts.{stored_sizes}
use Rattle.hd_volume.specs.Volumes.{VolumeState}
use Rattle.hd_image.specs.Holding.{volume_of}
use Rattle.hd_update.specs.States.{Represents}
use Rattle.hd_session.specs.declared.opening.OpenFault.TheVariants as opening
use Rattle.hd_session.specs.Opening.{SessionState, session_at_start, IsOpenedOver, IsOpenFaultOf}
use Rattle.hd_session.specs.Turns.{Turn}
use Rattle.hd_session.specs.Requests.{Request, ask, commit, calls_in, committed_by, Lasts, AreDone, AreBroken}
use Rattle.hd_deck.specs.declared.plays.Stop.{Stop}
use Rattle.hd_deck.specs.declared.plays.Stop.TheVariants as stop
use Rattle.hd_deck.specs.declared.runs.RunFault.{RunFault}
use Rattle.hd_deck.specs.declared.runs.RunFault.TheVariants as run
use Rattle.hd_deck.specs.Printing.{lines_from, print}
use Rattle.hd_deck.specs.StepText.{StepText}
use Rattle.hd_deck.specs.Runs.{memory_in, turns_of, IsPlayed}

-- ---- the commits within a deck

-- whether a commit is made behind the call of a number, where one is wanted behind every so many calls
abbrev pub is_due : Option ℕ → ℕ → Bool
is_due None number = false
is_due (Some every) number = nat_lt 0 every && (number % every == 0)

-- that commit
abbrev pub commit_behind : Option ℕ → ℕ → List Request
commit_behind every number = cond (is_due every number) (commit ∷ []) []

-- calls, the first of which has the number, with these commits among them
abbrev pub requests_from : Option ℕ → ℕ → List Turn → List Request
requests_from every number [] = []
requests_from every number (turn ∷ turns) = ask turn ∷ (commit_behind every number ++ requests_from every (number + 1) turns)

-- ---- in a session

-- Requests were carried out, and the lines of their calls were written, the first of which has the number; and so many of the calls found no memory.
pub record AreRequestsPlayed (s : SessionState) (st : State) (requests : List Request) (number : ℕ) (old new : Option (List ℕ)) (lacking : ℕ) (t : SessionState) : Type 0 where
  pub entries : List (Entry (List ℕ))
  pub done : AreDone s st requests entries t
  pub printed : Appends old new (lines_from number entries)
  pub memory : lacking ≡ memory_in entries

-- The first of the requests were carried out, however many.
pub record AreDoneInPart (s : SessionState) (st : State) (requests : List Request) (t : SessionState) : Type 0 where
  pub first : List Request
  pub rest : List Request
  pub parts : requests ≡ first ++ rest
  pub entries : List (Entry (List ℕ))
  pub done : AreDone s st first entries t

-- The first of the requests were carried out, and then an access failed.
pub record AreBrokenInPart (s : SessionState) (st : State) (requests : List Request) (t : SessionState) : Type 0 where
  pub first : List Request
  pub rest : List Request
  pub parts : requests ≡ first ++ rest
  pub broken : AreBroken s st first t

-- what a stop says of the requests: before a failed write, or a failed access, the first of them were carried out
abbrev pub AreDoneUntil : SessionState → State → List Request → Stop → SessionState → Type 0
AreDoneUntil s st requests stop.Device t = AreBrokenInPart s st requests t
AreDoneUntil s st requests stop.Write t = AreDoneInPart s st requests t

-- whatever state the session stood for, the requests were played from it
abbrev pub PlaysRequests : SessionState → List Request → ℕ → Option (List ℕ) → Option (List ℕ) → ℕ → SessionState → Type 0
PlaysRequests s requests number old new lacking t =
    (st : State) → IsTrue s.volume.is_sound → Represents s.database s.volume s.kept st → AreRequestsPlayed s st requests number old new lacking t

-- whatever state the session stood for, a commit that was due was done in it, and nothing where none was
abbrev pub CommitsIfDue : SessionState → List Request → SessionState → Type 0
CommitsIfDue s requests t = (st : State) → IsTrue s.volume.is_sound → Represents s.database s.volume s.kept st → AreDone s st requests [] t

-- whatever state the session stood for, requests were carried out from it until the stop
abbrev pub DoesUntil : SessionState → List Request → Stop → SessionState → Type 0
DoesUntil s requests e t = (st : State) → IsTrue s.volume.is_sound → Represents s.database s.volume s.kept st → AreDoneUntil s st requests e t

-- What stands in a store: its bytes, and what a crash leaves of it.
pub record Stored : Type 0 where
  pub bytes : List ℕ
  pub committed : Committed

-- what stands in a store
abbrev pub stored_in : {S : Type 0} → (S → List ℕ) → (S → Committed) → S → Stored
stored_in contents committed store = record { bytes = contents store; committed = committed store }

-- ---- a session that is closed

-- what a session leaves in its store when it is closed
abbrev pub Leaves : SessionState → Stored → Type 0
Leaves t left = (t.volume.image ≡ left.bytes) × (t.volume.committed ≡ left.committed)

-- The requests were carried out, and the last of them left this.
pub record AreDoneOut (s : SessionState) (st : State) (requests : List Request) (left : Stored) : Type 0 where
  pub last : SessionState
  pub entries : List (Entry (List ℕ))
  pub done : AreDone s st requests entries last
  pub leaves : Leaves last left

-- The requests were carried out, and then an access failed: of what is left something is said only for a crash.
pub record AreBrokenOut (s : SessionState) (st : State) (requests : List Request) (left : Stored) : Type 0 where
  pub last : SessionState
  pub entries : List (Entry (List ℕ))
  pub done : AreDone s st requests entries last
  pub fails : FailsCommit last.volume.is_sound last.volume.image last.volume.committed left.committed

-- whatever state the session stood for, the requests were carried out from it, and this is left
abbrev pub DoesOut : SessionState → List Request → Stored → Type 0
DoesOut s requests left = (st : State) → IsTrue s.volume.is_sound → Represents s.database s.volume s.kept st → AreDoneOut s st requests left

-- whatever state the session stood for, the requests were carried out from it, an access failed, and this is left
abbrev pub BreaksOut : SessionState → List Request → Stored → Type 0
BreaksOut s requests left = (st : State) → IsTrue s.volume.is_sound → Represents s.database s.volume s.kept st → AreBrokenOut s st requests left

-- The requests were played, and the last of them left this.
pub record AreRequestsPlayedOut (s : SessionState) (st : State) (requests : List Request) (old new : Option (List ℕ)) (lacking : ℕ) (left : Stored) : Type 0 where
  pub last : SessionState
  pub played : AreRequestsPlayed s st requests 1 old new lacking last
  pub leaves : Leaves last left

-- whatever state the session stood for, the requests were played from it, and this is left
abbrev pub PlaysRequestsOut : SessionState → List Request → Option (List ℕ) → Option (List ℕ) → ℕ → Stored → Type 0
PlaysRequestsOut s requests old new lacking left =
    (st : State) → IsTrue s.volume.is_sound → Represents s.database s.volume s.kept st → AreRequestsPlayedOut s st requests old new lacking left

-- The first of the requests were carried out, and this is left.
pub record AreDoneOutInPart (s : SessionState) (st : State) (requests : List Request) (left : Stored) : Type 0 where
  pub first : List Request
  pub rest : List Request
  pub parts : requests ≡ first ++ rest
  pub done : AreDoneOut s st first left

-- The first of the requests were carried out, an access failed, and this is left.
pub record AreBrokenOutInPart (s : SessionState) (st : State) (requests : List Request) (left : Stored) : Type 0 where
  pub first : List Request
  pub rest : List Request
  pub parts : requests ≡ first ++ rest
  pub broken : AreBrokenOut s st first left

-- what a stop says of the requests, and of what is left
abbrev pub AreLeftAt : SessionState → State → List Request → Stop → Stored → Type 0
AreLeftAt s st requests stop.Device left = AreBrokenOutInPart s st requests left
AreLeftAt s st requests stop.Write left = AreDoneOutInPart s st requests left

-- whatever state the session stood for, requests were carried out from it until the stop, and this is left
abbrev pub LeavesUntil : SessionState → List Request → Stop → Stored → Type 0
LeavesUntil s requests e left = (st : State) → IsTrue s.volume.is_sound → Represents s.database s.volume s.kept st → AreLeftAt s st requests e left

-- ---- over a store

-- A session was opened over the volume of a sound store: it stands at its start, and the volume has the store's bytes.
pub record IsOpenedOn (d : Database) (pcbs : List View) (store : Stored) (s : SessionState) : Type 0 where
  pub loaded : VolumeState
  pub image : loaded.image ≡ store.bytes
  pub size : loaded.size ≡ d.block_size
  pub sizes : loaded.sizes ≡ stored_sizes d.types
  pub start : s ≡ session_at_start d pcbs s.volume
  pub sound : IsTrue s.volume.is_sound
  pub now : s.volume.image ≡ store.bytes
  pub committed : s.volume.committed ≡ store.committed
  pub over : IsOpenedOver d pcbs loaded s

-- A store's bytes held one forest; the calls among the requests came to a legal log from it, and the bytes that are left are those behind its last
-- entry (IsPlayed); and each commit among the requests made last the image that it found, in their order: where none was asked for, a crash leaves what
-- it would have left before.
pub record IsDone (d : Database) (pcbs : List View) (store : Stored) (requests : List Request) (left : Stored) : Type 0 where
  pub log : Log (List ℕ)
  pub played : IsPlayed d pcbs store.bytes (calls_in requests) log left.bytes
  pub lasts : Lasts (committed_by requests log.entries log.last) store.committed left.committed

-- The requests were carried out, and then an access failed: a crash leaves what it would have left before that, or, where it was one of a commit, the
-- image behind the requests.
pub record IsDoneUntilFailure (d : Database) (pcbs : List View) (store : Stored) (requests : List Request) (left : Stored) : Type 0 where
  pub last : Stored
  pub done : IsDone d pcbs store requests last
  pub fails : FailsCommit true last.bytes last.committed left.committed

-- A run that made all calls, with all commits among them: the lines of their log were written, and so many of the calls found no memory.
pub record IsRunDone (d : Database) (pcbs : List View) (store : Stored) (requests : List Request) (old new : Option (List ℕ)) (lacking : ℕ) (left : Stored) : Type 0 where
  pub done : IsDone d pcbs store requests left
  pub printed : Appends old new (print done.log)
  pub memory : lacking ≡ memory_in done.log.entries

-- A run of which the first requests were carried out, however many.
pub record IsDoneInPart (d : Database) (pcbs : List View) (store : Stored) (requests : List Request) (left : Stored) : Type 0 where
  pub first : List Request
  pub rest : List Request
  pub parts : requests ≡ first ++ rest
  pub done : IsDone d pcbs store first left

-- The same, and then an access failed.
pub record IsBrokenInPart (d : Database) (pcbs : List View) (store : Stored) (requests : List Request) (left : Stored) : Type 0 where
  pub first : List Request
  pub rest : List Request
  pub parts : requests ≡ first ++ rest
  pub done : IsDoneUntilFailure d pcbs store first left

-- What a fault says of a run with commits: what refused the opening, and want of memory, came before the first call, and changed nothing; a failed access
-- came before the first call, or behind some requests; before a failed write some were carried out.
abbrev pub IsDoneUntilFault : Database → List View → Stored → List Request → Stored → RunFault → Type 0
IsDoneUntilFault d pcbs store requests left (run.Open fault) =
    (left.committed ≡ store.committed) × IsOpenFaultOf d pcbs (volume_of d store.bytes) fault × (fault ≢ opening.Device → left.bytes ≡ store.bytes)
IsDoneUntilFault d pcbs store requests left run.Memory = (left.committed ≡ store.committed) × (left.bytes ≡ store.bytes)
IsDoneUntilFault d pcbs store requests left run.Device = (left.committed ≡ store.committed) ⊎ IsBrokenInPart d pcbs store requests left
IsDoneUntilFault d pcbs store requests left run.Write = IsDoneInPart d pcbs store requests left

-- ---- a deck over a store

-- the calls of a deck, with a commit behind every so many of them where that is wanted
abbrev pub deck_requests : Option ℕ → List StepText → List Request
deck_requests every steps = requests_from every 1 (turns_of steps)

-- Over a sound store all calls of the steps were made, with the commits among them, their lines were printed, and so many of them found no memory.
abbrev pub PlaysWithCommits : {S : Type 0} → (S → Bool) → (S → List ℕ) → (S → Committed) → Database → List View → Option ℕ → List StepText → S → S → Option (List ℕ) → Option (List ℕ) → ℕ → Type 0
PlaysWithCommits is_sound contents committed d pcbs every steps old new before after memory =
    IsTrue (is_sound old) → IsRunDone d pcbs (stored_in contents committed old) (deck_requests every steps) before after memory (stored_in contents committed new)

-- Over a sound store a fault ended the calls of the steps, with the commits among them.
abbrev pub PlaysUntilFault : {S : Type 0} → (S → Bool) → (S → List ℕ) → (S → Committed) → Database → List View → Option ℕ → List StepText → S → S → RunFault → Type 0
PlaysUntilFault is_sound contents committed d pcbs every steps old new fault =
    IsTrue (is_sound old) → IsDoneUntilFault d pcbs (stored_in contents committed old) (deck_requests every steps) (stored_in contents committed new) fault
