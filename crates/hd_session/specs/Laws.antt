-- What the logs of sessions keep to.
use Rattle.std.specs.Prelude.{◌≡◌, ℕ, List, [], ◌∷◌, ◌++◌, ◌≤◌, length, take, map, replicate, true, false, IsTrue, Some, Result, Ok}
use Rattle.hd_dbd.specs.Types.{View}
use Rattle.hd_dbd.specs.declared.answer.Refused.{Refused}
use Rattle.hd_dbd.specs.Hierarchy.{Database}
use Rattle.hd_dbd.specs.Segment.{Segment}
use Rattle.hd_dbd.specs.Logs.{Outcome, replied, Entry, Log}
use Rattle.hd_calls.specs.Runs.{IsLegalLog}
use Rattle.hd_calls.specs.Steps.{State}
use Rattle.hd_calls.specs.Tags.{Moment, moments, tagged_at_start}
use Rattle.hd_calls.specs.NoLostUpdate.{is_update, opened, GoesBack}
use Rattle.hd_volume.specs.Volumes.{VolumeState}
use Rattle.hd_links.specs.Steps.{rows_of}
use Rattle.hd_changes.specs.VolumeImages.{images_of}
use Rattle.hd_update.specs.States.{Represents}
use Rattle.hd_session.specs.declared.call_and_answer.Answer.{Answer}
use Rattle.hd_session.specs.Buffer.{Buffer}
use Rattle.hd_session.specs.Opening.{SessionState, session_at_start, IsOpenedOver, IsOpenRead}
use Rattle.hd_session.specs.Logged.{outcome_of}
use Rattle.hd_session.specs.Foretelling.{foretold}
use Rattle.hd_session.specs.Turns.{Turn, turns_in, LackMemoryFairly, IsTurnAnswered, IsFlushed, AreMade, entry_of}

-- ---- no update is lost

-- In a legal log of a database's volumes that begins with all PCBs before all rows, each REPL or DLET that was answered blank goes back to an
-- earlier hold of its PCB: since then the PCB's own calls were refused, no other PCB has touched a row that the hold returned, and the call
-- works on just those rows, whose bytes are those that the hold returned.
abbrev pub LogsLoseNoUpdate : Type 0
LogsLoseNoUpdate =
    (d : Database) (pcbs : List View) (image : List ℕ) (rows : List Segment) (log : Log (List ℕ)) (before after : List (Moment (List ℕ))) (n : Moment (List ℕ))
    → IsLegalLog (images_of d) d.types pcbs image (opened pcbs rows) log
    → moments d.types pcbs (tagged_at_start (opened pcbs rows)) log.entries ≡ before ++ n ∷ after
    → is_update n ≡ true
    → (first : List (Moment (List ℕ))) × (m : Moment (List ℕ)) × (between : List (Moment (List ℕ))) × (before ≡ first ++ m ∷ between)
    × GoesBack d.types pcbs m n between

-- ---- sessions answer their logs

-- with no call made a session of the database has made none, in whatever state it stands for
abbrev pub NoneIsMade : Database → Type 0
NoneIsMade d = (s : SessionState) (st : State) → s.database ≡ d → s.broken ≡ false → Represents d s.volume s.kept st → AreMade s st [] [] s

-- to the calls that were made in a session, over a sound store, one more is added that comes to an outcome
abbrev pub OneMoreIsMade : Database → Type 0
OneMoreIsMade d =
    (s m t : SessionState) (st : State) (turns : List Turn) (entries : List (Entry (List ℕ))) (turn : Turn) (result : Result Answer Refused) (io : Buffer) (o : Outcome)
    → s.database ≡ d → IsTrue s.volume.is_sound → AreMade s st turns entries m → IsTurnAnswered m turn result io t → outcome_of result io ≡ Some o
    → AreMade s st (turns ++ turn ∷ []) (entries ++ entry_of m turn o ∷ []) t

-- a flush between calls makes none, and none undone
abbrev pub FlushesMakeNoCall : Database → Type 0
FlushesMakeNoCall d =
    (s m t : SessionState) (st : State) (turns : List Turn) (entries : List (Entry (List ℕ)))
    → s.database ≡ d → IsTrue s.volume.is_sound → AreMade s st turns entries m → IsFlushed m t → AreMade s st turns entries t

-- A session was opened over a volume whose store is sound, as an opening answers it.
pub record IsOpened (d : Database) (pcbs : List View) (v : VolumeState) (s : SessionState) : Type 0 where
  pub sound : IsTrue v.is_sound
  pub read : IsOpenRead v (Ok s)
  pub start : s ≡ session_at_start d pcbs s.volume
  pub over : IsOpenedOver d pcbs v s

-- The log is of these calls, and it is legal from an image that holds these rows and from all PCBs before them; it says that memory was wanting
-- only at calls that take some.
pub record IsLegalLogOf (d : Database) (pcbs : List View) (image : List ℕ) (rows : List Segment) (turns : List Turn) (log : Log (List ℕ)) : Type 0 where
  pub legal : IsLegalLog (images_of d) d.types pcbs image (opened pcbs rows) log
  pub asked : turns_in log.entries ≡ turns
  pub lacking : LackMemoryFairly d.types pcbs (opened pcbs rows) log.entries

-- calls that were made from a session's opening on come to a legal log, from the rows over which it was opened
abbrev pub CallsFromOpeningAreLegal : Database → Type 0
CallsFromOpeningAreLegal d =
    (pcbs : List View) (v : VolumeState) (s t : SessionState) (first : IsOpened d pcbs v s) (turns : List Turn) (entries : List (Entry (List ℕ)))
    → AreMade s (opened pcbs (rows_of first.over.ready.placed)) turns entries t
    → IsLegalLogOf d pcbs v.image (rows_of first.over.ready.placed) turns (record { entries = entries; last = t.volume.image })

-- Sessions of a database answer their logs: where no call was made none is; each call that comes to an outcome, by whichever PCB, makes the list
-- one longer, and a flush leaves it; and the list of those from the opening on is a legal log.
pub record SessionsAnswer (d : Database) : Type 0 where
  pub none : NoneIsMade d
  pub more : OneMoreIsMade d
  pub flushed : FlushesMakeNoCall d
  pub legal : CallsFromOpeningAreLegal d

-- it holds of every database
abbrev pub SessionsAnswerTheirLogs : Type 0
SessionsAnswerTheirLogs = (d : Database) → SessionsAnswer d

-- ---- foretelling

-- a call that is made so often in a session, from a state on that has a position of its PCB, is answered as it is foretold there, as far as that goes
abbrev pub ForetoldAnswersComeTrue : Type 0
ForetoldAnswersComeTrue =
    (s t : SessionState) (st : State) (turn : Turn) (n k : ℕ) (entries : List (Entry (List ℕ)))
    → turn.pcb ≤ length st.positions → AreMade s st (replicate k turn) entries t
    → take (length (foretold s.database.types s.pcbs st turn n)) (map (λ e. e.outcome) entries) ≡ take k (map (λ r. replied r) (foretold s.database.types s.pcbs st turn n))
