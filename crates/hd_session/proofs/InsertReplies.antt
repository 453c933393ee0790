-- ISRT and its answer.
use Rattle.std.proofs.Common.{◌≡◌, ℕ, ◌-◌, ◌<◌, ◌≤◌, List, [], ◌∷◌, length, IsTrue, false, Ok, refl, sym, ap, ◌∙◌}
use Rattle.std.specs.Prelude.{slice_index_or}
use Rattle.hd_dbd.specs.Types.{View}
use Rattle.hd_dbd.specs.declared.answer.Status.{Status}
use Rattle.hd_dbd.specs.declared.answer.Status.TheVariants.{Blank}
use Rattle.hd_dbd.specs.Hierarchy.{Database}
use Rattle.hd_dbd.specs.Calls.{Reply, bare}
use Rattle.hd_calls.specs.Access.{loads}
use Rattle.hd_calls.specs.Ssas.{Ssa}
use Rattle.hd_calls.specs.Steps.{State, answered, position_at}
use Rattle.hd_calls.specs.NoLostUpdate.{is_done}
use Rattle.hd_volume.specs.Volumes.{VolumeState}
use Rattle.hd_volume.specs.Calls.{IsRead}
use Rattle.hd_image.specs.Records.{links_of, IsVolumeOf}
use Rattle.hd_forest.specs.Rows.{IsOnSomeRow}
use Rattle.hd_position.specs.Kept.{Kept}
use Rattle.hd_get.specs.declared.outcome.Outcome.TheVariants.{Found, Missing}
use Rattle.hd_update.specs.Inserting.{IsInsertDone, insert_effect}
use Rattle.hd_update.specs.States.{HasState, IsAnswered}
use Rattle.hd_session.specs.Giving.{IsGiven}
use Rattle.hd_session.specs.Sessions.{IsStep}
use Rattle.hd_session.proofs.InsertedCalls.{IsInsertion, insert_answers}
use Rattle.hd_session.proofs.InsertedRows.{on_inserted, inserted_step}

module _ (d : Database) (pcb : View) (ssas : List Ssa) (area : List ℕ) (no_load : loads pcb ≡ false) (v : VolumeState) (st : State) (number : ℕ) (status : Status) (w : VolumeState) (new : List Kept) where
  -- rows that went in, and what is read of the last of them
  module _ (k : Kept) (some : 0 < number) (within : number ≤ length new) (A : IsAnswered d v st number (insert_effect d pcb number ssas area st) (Found status) w new) where
    I : IsInsertion (record { types = d.types; pcb = pcb }) st.rows (position_at st number) (insert_effect d pcb number ssas area st)
    I = (insert_answers (record { types = d.types; pcb = pcb }) st.rows (position_at st number) no_load ssas area A.reply A.change A.own A.is).0 (ap is_done A.outcome_is.0 ∙ A.outcome_is.1)

    pub went_in : IsOnSomeRow d.types (links_of d.types w) (slice_index_or new (number - 1) k).path
    went_in = (A.represents.placed, _, on_inserted d pcb v st number status w new k some within (insert_effect d pcb number ssas area st) I.new I.number I.some I.is A)

    pub went_step : {B : Type 0} {b : B} (x : VolumeState) (path levels : List ℕ) (reply : Reply) → IsRead {T = B} w (Ok b) x → IsTrue w.is_sound
        → path ≡ (slice_index_or new (number - 1) k).path → levels ≡ [] → IsGiven d w path levels Blank reply → IsStep d v st number (insert_effect d pcb number ssas area st) reply x new
    went_step = inserted_step d pcb v st number status w new k some within (insert_effect d pcb number ssas area st) I.new I.number I.some I.is A

  -- a status alone
  pub none_step : (reply : Reply) → reply ≡ bare status → IsAnswered d v st number (insert_effect d pcb number ssas area st) (Missing status) w new → IsStep d v st number (insert_effect d pcb number ssas area st) reply w new
  none_step reply none A = record {
    change = A.change;
    own = A.own;
    is =
        A.is
        ∙ ap (λ (r : Reply). answered r A.change A.own)
        ((insert_answers (record { types = d.types; pcb = pcb }) st.rows (position_at st number) no_load ssas area A.reply A.change A.own A.is).1 (ap is_done A.outcome_is.0 ∙ A.outcome_is.1) ∙ ap bare A.outcome_is.0 ∙ sym none);
    represents = A.represents;
    follows = A.follows;
  }

-- ---- some PCB that does not load

abbrev reader : View
reader = record { procopt = 71 ∷ []; sens = [] }

-- where rows went in, the volume is one of the database, and the PCB has the path of a row
pub record IsInsertedIn (d : Database) (w : VolumeState) (path : List ℕ) : Type 0 where
  pub volume : IsVolumeOf d w
  pub there : IsOnSomeRow d.types (links_of d.types w) path

pub inserted_in : (d : Database) (v : VolumeState) (old : List Kept) (number : ℕ) (ssas : List Ssa) (area : List ℕ) (status : Status) (w : VolumeState) (new : List Kept) (k : Kept)
    → 0 < number → number ≤ length new → HasState d v old → IsTrue v.is_sound → IsInsertDone d v old number ssas area (Found status) w new → IsInsertedIn d w (slice_index_or new (number - 1) k).path
inserted_in d v old number ssas area status w new k some within state sound done =
    let T = state sound in
    let A = done reader refl T.0 sound T.1 in
    record { volume = A.represents.holds.volume; there = went_in d reader ssas area refl v T.0 number status w new k some within A }
