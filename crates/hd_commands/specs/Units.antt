-- What a deck that is played over a volume and its log adds to the commits of the volume.
use Rattle.std.specs.Prelude.{◌≡◌, ◌⊎◌, ℕ, Bool, true, IsTrue, List, [], ◌∷◌, ◌++◌, Option, Result, OnOk}
use Rattle.hd_dbd.specs.declared.answer.Refused.{Refused}
use Rattle.hd_dbd.specs.Refusals.{OnlyDevice}
use Rattle.hd_dbd.specs.Types.{View}
use Rattle.hd_dbd.specs.Hierarchy.{Database}
use Rattle.hd_stores.specs.Stores.{Committed, CountsDevice, StaysSound}
use Rattle.hd_session.specs.Turns.{Turn}
use Rattle.hd_session.specs.Requests.{Request, commit}
use Rattle.hd_deck.specs.StepText.{StepText}
use Rattle.hd_deck.specs.Runs.{turns_of}
use Rattle.hd_deck.specs.Commits.{Stored, stored_in, requests_from, deck_requests, IsDoneUntilFailure, IsRunDone, IsDoneInPart, IsBrokenInPart}
use Rattle.hd_journal.specs.Journals.{IsCommitted}

-- ---- a play over a store

-- over a store that was sound, and still is, the first of them were carried out, however many
abbrev pub PlaysInPart : {S : Type 0} → (S → Bool) → (S → List ℕ) → (S → Committed) → Database → List View → Option ℕ → List StepText → S → S → Type 0
PlaysInPart is_sound contents committed d pcbs every steps old new =
    IsTrue (is_sound old) → IsTrue (is_sound new) → IsDoneInPart d pcbs (stored_in contents committed old) (deck_requests every steps) (stored_in contents committed new)

-- nothing was added to the commits of a sound store, or what the first of them do, up to an access that failed, if one did
abbrev pub AddsCommits : {S : Type 0} → (S → Bool) → (S → List ℕ) → (S → Committed) → Database → List View → Option ℕ → List StepText → S → S → Type 0
AddsCommits is_sound contents committed d pcbs every steps old new =
    IsTrue (is_sound old)
    → (committed new ≡ committed old) ⊎ IsBrokenInPart d pcbs (stored_in contents committed old) (deck_requests every steps) (stored_in contents committed new)

-- ---- behind a play

-- All that was to be written has reached the store, or an access failed.
pub record IsWritten (result : Result Unit Refused) (is_sound : Bool) (failures : ℕ) (contents : List ℕ) (new_is_sound : Bool) (new_failures : ℕ) (new_contents : List ℕ) : Type 0 where
  pub refusal : OnlyDevice result
  pub counts : CountsDevice result failures new_failures
  pub sound : StaysSound result is_sound new_is_sound
  pub contents_kept : OnOk result (IsTrue is_sound → new_contents ≡ contents)

-- A commit of these contents is done, behind those that were, or it was tried and failed.
abbrev pub Commits : List ℕ → Committed → Committed → Type 0
Commits contents old new = IsCommitted contents old new ⊎ (new ≡ record old { tried = contents })

-- A store that is sound may commit these contents, done or tried, if that is wanted; else nothing is committed.
abbrev pub MayCommit : Bool → Bool → List ℕ → Committed → Committed → Type 0
MayCommit wanted is_sound contents old new = (new ≡ old) ⊎ (wanted ≡ true) × IsTrue is_sound × Commits contents old new

-- ---- the unit

-- what a deck asks for as a unit: its calls, with a commit behind every so many of them where that is wanted, and one behind the last
abbrev pub unit_requests : Option ℕ → List Turn → List Request
unit_requests every turns = requests_from every 1 turns ++ commit ∷ []

-- over a sound store all that was carried out, and the lines of the calls were printed, so many of which found no memory
abbrev pub PlaysUnit : {S : Type 0} → (S → Bool) → (S → List ℕ) → (S → Committed) → Database → List View → Option ℕ → List StepText → S → S → Option (List ℕ) → Option (List ℕ) → ℕ → Type 0
PlaysUnit is_sound contents committed d pcbs every steps old new before after memory =
    IsTrue (is_sound old) → IsRunDone d pcbs (stored_in contents committed old) (unit_requests every (turns_of steps)) before after memory (stored_in contents committed new)

-- A deck was played in part: the first of its calls, with the commits among them, were carried out, and, unless an access failed, a commit behind them; where
-- one failed that was of a commit, a crash may leave the image behind them too.
pub record IsUnitInPart (d : Database) (pcbs : List View) (store : Stored) (every : Option ℕ) (turns : List Turn) (new : Committed) : Type 0 where
  pub first : List Request
  pub rest : List Request
  pub parts : requests_from every 1 turns ≡ first ++ rest
  pub requests : List Request
  pub carried : (requests ≡ first) ⊎ (requests ≡ first ++ commit ∷ [])
  pub bytes : List ℕ
  pub done : IsDoneUntilFailure d pcbs store requests (record { bytes = bytes; committed = new })

-- what a deck, however much of it was played, adds to the commits of a store: nothing, or what a part of it does
abbrev pub UnitCommits : Database → List View → Stored → Option ℕ → List Turn → Committed → Type 0
UnitCommits d pcbs store every turns new = (new ≡ store.committed) ⊎ IsUnitInPart d pcbs store every turns new
