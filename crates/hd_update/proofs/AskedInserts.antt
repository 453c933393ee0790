-- What an ISRT comes to in a state, by the parent that was found for it.
use Rattle.std.proofs.Common.{◌≡◌, ℕ, ◌-◌, ◌∷◌, ◌<◌, ◌≤◌, List, length, take, drop, true, false, IsTrue, Ok, Option, Some, None, refl, sym, ap, ap₂, subst, ◌∙◌}
use Rattle.std.specs.Prelude.{slice_get, slice_index_or}
use Rattle.hd_dbd.specs.declared.hierarchy.Rule.{Rule}
use Rattle.hd_dbd.specs.declared.answer.Refused.{Refused}
use Rattle.hd_dbd.specs.declared.answer.Status.TheVariants.{GE}
use Rattle.hd_dbd.specs.Types.{View}
use Rattle.hd_dbd.specs.Segment.{Segment}
use Rattle.hd_dbd.specs.Hierarchy.{Database}
use Rattle.hd_dbd.specs.Views.{Setting}
use Rattle.hd_calls.specs.Access.{loads}
use Rattle.hd_calls.specs.Ssas.{Ssa, first_inserted}
use Rattle.hd_calls.specs.Places.{rule_of, rule_under}
use Rattle.hd_calls.specs.Steps.{State, Effect, bare_answer, position_at, inserted_codes}
use Rattle.hd_volume.specs.Volumes.{VolumeState}
use Rattle.hd_volume.specs.Calls.{IsRead}
use Rattle.hd_links.specs.Steps.{rows_of}
use Rattle.hd_forest.proofs.Reading.{after-read, sound-before}
use Rattle.hd_get.specs.declared.outcome.Outcome.{Outcome}
use Rattle.hd_get.specs.declared.outcome.Outcome.TheVariants.{Missing}
use Rattle.hd_position.specs.Kept.{Kept}
use Rattle.hd_update.specs.NewRows.{codes_of, are_rows_in, rows_in}
use Rattle.hd_update.specs.Inserting.{AreInsertArguments, insert_effect, insert_under, parent_asked, IsParentAsked, IsUnder, HasParentFor, AreInsertedUnder, IsFullUnder, IsInsertDone, IsInsertFull}
use Rattle.hd_update.specs.Places.{IsTypeBelow}
use Rattle.hd_update.specs.Positions.{unheld_at}
use Rattle.hd_update.specs.States.{Represents, HasState}
use Rattle.hd_update.proofs.Answering.{answered_as, answered_before, bare_answered, represented, lacks_before}
use Rattle.hd_update.proofs.InsertArguments.{left, codes_left, begins}
use Rattle.hd_update.proofs.InsertCalls.{no_parent, below_parent}
use Rattle.hd_update.proofs.Standing.{own_position}

-- What is known of a call: its number, where what it inserts begins, and the codes of that; the area is its rows.
pub record IsCut (d : Database) (old : List Kept) (number : ℕ) (ssas : List Ssa) (area : List ℕ) (n code : ℕ) : Type 0 where
  pub some : 0 < number
  pub many : number ≤ length old
  pub place : n ≡ first_inserted ssas
  pub codes : List ℕ
  pub begins : inserted_codes ssas ≡ code ∷ codes
  pub are : are_rows_in d.types (inserted_codes ssas) area ≡ true

-- where the area is the rows that are cut off
pub cut_at : (d : Database) (old : List Kept) (number : ℕ) (ssas : List Ssa) (area : List ℕ) (n code : ℕ) (A : AreInsertArguments d.types ssas) (have : 0 < length ssas) (place : n ≡ first_inserted ssas)
    → 0 < number → number ≤ length old → (a b : Ssa) → a ≡ slice_index_or ssas n b → code ≡ a.code → are_rows_in d.types (codes_of (left d.types ssas A have n place)) area ≡ true
    → IsCut d old number ssas area n code
cut_at d old number ssas area n code A have place some many a b is code_is are = record {
  some = some;
  many = many;
  place = place;
  codes = drop 1 (inserted_codes ssas);
  begins = begins d.types ssas A have n place a b is code code_is;
  are = ap (λ (cs : List ℕ). are_rows_in d.types cs area) (sym (codes_left d.types ssas A have n place)) ∙ are;
}

module _ (d : Database) (v mid : VolumeState) (X : Type 0) (x : X) (read : IsRead {T = X} v (Ok x) mid) (old : List Kept) (number : ℕ) (ssas : List Ssa) (area : List ℕ) (n code : ℕ)
    (C : IsCut d old number ssas area n code) (k : Kept) where
  abbrev own : Kept
  own = slice_index_or old (number - 1) k

  abbrev setting : View → Setting
  setting pcb = record { types = d.types; pcb = pcb }

  -- the parent is the same in the rows of the state
  at_rows : (st : State) (R : Represents d v old st) (o : Option (Option ℕ)) → parent_asked d.types (rows_of R.placed) (position_at st number).standing (take n ssas) code ≡ o
      → parent_asked d.types st.rows (position_at st number).standing (take (first_inserted ssas) ssas) code ≡ o
  at_rows st R o is = ap₂ (λ (xs : List Segment) (m : ℕ). parent_asked d.types xs (position_at st number).standing (take m ssas) code) (sym R.rows) (sym C.place) ∙ is

  -- without a parent
  pub answered_none : IsParentAsked d v (take n ssas) code own None → IsInsertDone d v old number ssas area (Missing GE) mid (unheld_at number old)
  answered_none asked = λ pcb normal st sound R.
      answered_as d v st number (bare_answer (position_at st number) GE) (insert_effect d pcb number ssas area st) (Missing GE) mid (unheld_at number old)
      (no_parent (setting pcb) st.rows (position_at st number) ssas area normal C.are code C.codes C.begins
      (at_rows st R None (asked R.placed (position_at st number) (own_position d v old st number R C.some C.many sound k))))
      (bare_answered d v mid old st number GE read sound R C.some C.many refl)

  module _ (path : List ℕ) (asked : IsParentAsked d v (take n ssas) code own (Some path)) (first : ℕ) (first_is : first ≡ code) where
    -- The state has a parent with the path, which is the one asked.
    record IsFound (st : State) (R : Represents d v old st) : Type 0 where
      parent : Option ℕ
      is : parent_asked d.types (rows_of R.placed) (position_at st number).standing (take n ssas) code ≡ Some parent
      under : IsUnder d mid old st path first parent

    found : (st : State) (R : Represents d v old st) → IsTrue v.is_sound → IsFound st R
    found st R sound =
        let V = asked R.placed (position_at st number) (own_position d v old st number R C.some C.many sound k) in
        record {
          parent = V.0;
          is = V.1;
          under = record {
            sound = (after-read d v mid read sound).sound;
            represents = represented d v mid old st read sound R;
            path = V.2;
            typed = subst (λ (c : ℕ). IsTypeBelow d.types (rows_of R.placed) V.0 c) (sym first_is) V.3;
          };
        }

    pub has_parent : HasState d v old → HasParentFor d mid old path first
    has_parent has = λ now.
        (let sound = sound-before v mid read now in
        let T = has sound in
        let F = found T.0 T.1 sound in
        (T.0, F.parent, F.under))

    module _ (rows : List Segment) (rows_are : rows ≡ rows_in d.types (inserted_codes ssas) area) (a : Ssa) (there : slice_get ssas (first_inserted ssas) ≡ Some a) (rule : Rule)
        (rule_is : rule ≡ rule_under a.commands (rule_of d.types code)) where
      effect_is : (pcb : View) (st : State) (R : Represents d v old st) (F : IsFound st R) → loads pcb ≡ false
          → insert_effect d pcb number ssas area st ≡ insert_under (setting pcb) st.rows (position_at st number) rule F.parent rows
      effect_is pcb st R F normal =
          below_parent (setting pcb) st.rows (position_at st number) ssas area normal C.are code C.codes C.begins F.parent rule a (at_rows st R (Some F.parent) F.is) there rule_is
          ∙ ap (λ (xs : List Segment). insert_under (setting pcb) st.rows (position_at st number) rule F.parent xs) (sym rows_are)

      -- the rows went in below the parent
      pub done_below : (o : Outcome) (w : VolumeState) (new : List Kept) → AreInsertedUnder d mid old number path first rule rows o w new → IsInsertDone d v old number ssas area o w new
      done_below o w new done = λ pcb normal st sound R.
          (let F = found st R sound in
          let e : Effect = insert_under (setting pcb) st.rows (position_at st number) rule F.parent rows in
          answered_as d v st number e (insert_effect d pcb number ssas area st) o w new (effect_is pcb st R F normal)
          (answered_before d v mid st number e o w new (after-read d v mid read sound).image (done pcb st F.parent F.under)))

      -- there was no room for them
      pub full_below : (e : Refused) → IsFullUnder d mid old number path first rule rows e → IsInsertFull d v old number ssas area e
      full_below e full = λ pcb st normal is sound R.
          (let F = found st R sound in
          lacks_before d v mid st.rows (insert_under (setting pcb) st.rows (position_at st number) rule F.parent rows) (insert_effect d pcb number ssas area st) (after-read d v mid read sound).image
          (effect_is pcb st R F normal) (full pcb st F.parent is F.under))
