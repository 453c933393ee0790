-- The row that a load put in, and its answer.
use Rattle.std.proofs.Common.{◌≡◌, ℕ, ◌+◌, ◌-◌, ◌<◌, ◌≤◌, List, [], ◌∷◌, length, None, IsTrue, true, false, Ok, refl, sym, ap, ◌∙◌, arith}
use Rattle.std.specs.Prelude.{slice_index_or, is_some}
use Rattle.hd_dbd.specs.Types.{View}
use Rattle.hd_dbd.specs.declared.answer.Status.{Status}
use Rattle.hd_dbd.specs.declared.answer.Status.TheVariants.{Blank}
use Rattle.hd_dbd.specs.Hierarchy.{Database, type_of}
use Rattle.hd_dbd.specs.Segment.{Segment}
use Rattle.hd_dbd.specs.Calls.{Reply, bare}
use Rattle.hd_calls.specs.Ssas.{Ssa}
use Rattle.hd_calls.specs.Steps.{State, answered, position_at, insert_at}
use Rattle.hd_calls.specs.NoLostUpdate.{is_done}
use Rattle.hd_volume.specs.Volumes.{VolumeState}
use Rattle.hd_volume.specs.Calls.{IsRead}
use Rattle.hd_image.specs.Records.{links_of, IsVolumeOf}
use Rattle.hd_forest.specs.Rows.{IsOnRow, IsOnSomeRow}
use Rattle.hd_position.specs.Kept.{Kept}
use Rattle.hd_get.specs.declared.outcome.Outcome.TheVariants.{Found, Missing}
use Rattle.hd_update.specs.Inserting.{insert_effect}
use Rattle.hd_update.specs.Loading.{HasPassedAll, InsertsOne, IsLoadDone}
use Rattle.hd_update.specs.States.{IsAnswered}
use Rattle.hd_update.proofs.LoadSteps.{load_answers}
use Rattle.hd_session.specs.Giving.{IsGiven}
use Rattle.hd_session.specs.Sessions.{IsStep}
use Rattle.hd_session.proofs.InsertedRows.{on_inserted, inserted_step}

module _ (d : Database) (pcb : View) (ssas : List Ssa) (code : ℕ) (area : List ℕ) (I : InsertsOne pcb ssas code) (typed : is_some (type_of d.types code) ≡ true) (v : VolumeState) (st : State)
    (number : ℕ) (status : Status) (w : VolumeState) (new : List Kept) (k : Kept) (some : 0 < number) (within : number ≤ length new)
    (A : IsAnswered d v st number (insert_effect d pcb number ssas area st) (Found status) w new) where
  abbrev row : Segment
  row = record { code = code; bytes = area }

  is : insert_effect d pcb number ssas area st ≡ insert_at (record { types = d.types; pcb = pcb }) st.rows (position_at st number) (row ∷ []) (length st.rows)
  is = (load_answers d code area pcb ssas I st number A.reply A.change A.own A.is).found (ap is_done A.outcome_is.0 ∙ A.outcome_is.1)

  -- the PCB has its path
  pub on_loaded : IsOnRow d.types (links_of d.types w) A.represents.placed (slice_index_or new (number - 1) k).path (length st.rows + 1 - 1)
  on_loaded = on_inserted d pcb v st number status w new k some within (insert_effect d pcb number ssas area st) (row ∷ []) (length st.rows) (omega arith) is A

  -- so what a call gives that reads it there is the answer
  pub loaded_step : {B : Type 0} {b : B} (x : VolumeState) (path levels : List ℕ) (reply : Reply) → IsRead {T = B} w (Ok b) x → IsTrue w.is_sound
      → path ≡ (slice_index_or new (number - 1) k).path → levels ≡ [] → IsGiven d w path levels Blank reply → IsStep d v st number (insert_effect d pcb number ssas area st) reply x new
  loaded_step = inserted_step d pcb v st number status w new k some within (insert_effect d pcb number ssas area st) (row ∷ []) (length st.rows) (omega arith) is A

-- a load that may not be answers a status alone
pub missed_step : (d : Database) (pcb : View) (ssas : List Ssa) (code : ℕ) (area : List ℕ) → InsertsOne pcb ssas code → is_some (type_of d.types code) ≡ true → (v : VolumeState) (st : State)
    (number : ℕ) (status : Status) (w : VolumeState) (new : List Kept) (reply : Reply) → reply ≡ bare status
    → IsAnswered d v st number (insert_effect d pcb number ssas area st) (Missing status) w new → IsStep d v st number (insert_effect d pcb number ssas area st) reply w new
missed_step d pcb ssas code area I typed v st number status w new reply none A = record {
  change = A.change;
  own = A.own;
  is =
      A.is
      ∙ ap (λ (r : Reply). answered r A.change A.own)
      ((load_answers d code area pcb ssas I st number A.reply A.change A.own A.is).missed (ap is_done A.outcome_is.0 ∙ A.outcome_is.1) ∙ ap bare A.outcome_is.0 ∙ sym none);
  represents = A.represents;
  follows = A.follows;
}

-- ---- some PCB that loads

abbrev loader : View
loader = record { procopt = 76 ∷ []; sens = [] }

abbrev naming : ℕ → List Ssa
naming code = record { code = code; commands = record { path = false; first = false; last = false; excepted = false }; groups = None } ∷ []

inserts : (code : ℕ) → InsertsOne loader (naming code) code
inserts code = (refl, refl)

-- Where a load went in, the volume is one of the database, and the PCB has the path of a row.
pub record IsLoadedIn (d : Database) (w : VolumeState) (path : List ℕ) : Type 0 where
  pub volume : IsVolumeOf d w
  pub there : IsOnSomeRow d.types (links_of d.types w) path

pub loaded_in : (d : Database) (v : VolumeState) (old : List Kept) (number code : ℕ) (area : List ℕ) (status : Status) (w : VolumeState) (new : List Kept) (k : Kept) → is_some (type_of d.types code) ≡ true
    → 0 < number → number ≤ length new → HasPassedAll d v old number → IsTrue v.is_sound → IsLoadDone d v old number code area (Found status) w new → IsLoadedIn d w (slice_index_or new (number - 1) k).path
loaded_in d v old number code area status w new k typed some within last sound done =
    let T = last sound in
    let A = done loader (naming code) (inserts code) T.0 sound T.1 in
    record { volume = A.represents.holds.volume; there = (A.represents.placed, length T.0.rows + 1 - 1, on_loaded d loader (naming code) code area (inserts code) typed v T.0 number status w new k some within A) }
