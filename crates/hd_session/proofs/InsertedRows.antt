-- Rows that a call put in, and its answer.
use Rattle.std.proofs.Common.{◌≡◌, ℕ, zero, suc, ◌+◌, ◌-◌, ◌<◌, ◌≤◌, List, [], ◌∷◌, length, map, IsTrue, Ok, refl, sym, ap, ◌∙◌, subst, arith}
use Rattle.std.specs.Prelude.{slice_index_or, slice_set}
use Rattle.hd_dbd.specs.Types.{SegmentType, View}
use Rattle.hd_dbd.specs.declared.answer.Status.{Status}
use Rattle.hd_dbd.specs.declared.answer.Status.TheVariants.{Blank}
use Rattle.hd_dbd.specs.Hierarchy.{Database}
use Rattle.hd_dbd.specs.Segment.{Segment}
use Rattle.hd_dbd.specs.Positions.{Position}
use Rattle.hd_dbd.specs.Views.{Setting}
use Rattle.hd_dbd.specs.Calls.{Reply, row_reply}
use Rattle.hd_dbd.specs.Forest.{Forest}
use Rattle.hd_calls.specs.Moves.{inserted, rows_after, position_after}
use Rattle.hd_calls.specs.Steps.{State, Effect, answered, position_at, state_after, onto_new, insert_at}
use Rattle.hd_calls.specs.Runs.{Follows}
use Rattle.hd_volume.specs.Volumes.{VolumeState}
use Rattle.hd_volume.specs.Calls.{IsRead}
use Rattle.hd_links.specs.Placed.{Placed}
use Rattle.hd_links.specs.Steps.{rows_of, address_at}
use Rattle.hd_image.specs.Records.{links_of}
use Rattle.hd_forest.specs.Rows.{IsOnRow}
use Rattle.hd_forest.proofs.Reading.{after-read}
use Rattle.hd_changes.specs.VolumeImages.{images_of}
use Rattle.hd_position.specs.Kept.{Kept, StandsFor, path_passed}
use Rattle.hd_get.specs.declared.outcome.Outcome.TheVariants.{Found}
use Rattle.hd_update.specs.States.{StandForAll, IsAnswered}
use Rattle.hd_update.proofs.Answering.{represented}
use Rattle.hd_session.specs.Giving.{IsGiven}
use Rattle.hd_session.specs.Sessions.{IsStep}
use Rattle.hd_session.proofs.GotRows.{given_same}

-- a PCB that took a position of its own stands there
own_of : (types : List SegmentType) (f : Forest Placed) (ks : List Kept) (qs : List Position) (n : ℕ) (q : Position) (k : Kept) → StandForAll types f ks (slice_set qs n q) → n < length ks
    → StandsFor types f (slice_index_or ks n k) q
own_of types f [] qs n q k S within = absurd (omega arith)
own_of types f (j ∷ ks) [] n q k S within = absurd S
own_of types f (j ∷ ks) (p ∷ qs) zero q k S within = S.0
own_of types f (j ∷ ks) (p ∷ qs) (suc n) q k S within = own_of types f ks qs n q k S.1 (omega arith)

-- ---- rows that a call put in at number n

module _ (d : Database) (pcb : View) (v : VolumeState) (st : State) (number : ℕ) (status : Status) (w : VolumeState) (new : List Kept) (k : Kept) (some : 0 < number) (within : number ≤ length new)
    (effect : Effect) (rows_in : List Segment) (n : ℕ) (some_rows : 0 < length rows_in) (is : effect ≡ insert_at (record { types = d.types; pcb = pcb }) st.rows (position_at st number) rows_in n)
    (A : IsAnswered d v st number effect (Found status) w new) where
  abbrev setting : Setting
  setting = record { types = d.types; pcb = pcb }

  abbrev after : List Segment
  after = rows_after (inserted n rows_in) st.rows

  abbrev i : ℕ
  i = n + length rows_in - 1

  abbrev own : Position
  own = onto_new d.types after (position_after d.types st.rows (inserted n rows_in) (position_at st number)) i

  rows : rows_of A.represents.placed ≡ after
  rows = A.represents.rows ∙ ap (λ (e : Effect). (state_after d.types st number e).rows) is

  stands : StandsFor d.types A.represents.placed (slice_index_or new (number - 1) k) own
  stands =
      own_of d.types A.represents.placed new (map (λ q. position_after d.types st.rows (inserted n rows_in) q) st.positions) (number - 1) own k
      (subst (λ (e : Effect). StandForAll d.types A.represents.placed new (state_after d.types st number e).positions) is A.represents.positions) (omega arith)

  -- the PCB has its path
  pub on_inserted : IsOnRow d.types (links_of d.types w) A.represents.placed (slice_index_or new (number - 1) k).path i
  on_inserted =
      let low : i + 1 ≤ length (rows_of A.represents.placed) = stands.within in
      record {
        holds = A.represents.holds.records;
        within = omega arith;
        is = stands.path ∙ ap (λ n. map (λ j. address_at A.represents.placed j) (path_passed d.types (rows_of A.represents.placed) n)) (let e : i + 1 ≡ suc i = omega arith in e);
      }

  -- and the answer is that row
  pub inserted_reply : A.reply ≡ row_reply setting (rows_of A.represents.placed) i Blank []
  inserted_reply = one_reply A.reply (row_reply setting after i Blank []) _ _ A.own own (sym A.is ∙ is) ∙ ap (λ (rs : List Segment). row_reply setting rs i Blank []) (sym rows)
    where
      one_reply : (r s : Reply) (c b : _) (p q : Position) → answered r c p ≡ answered s b q → r ≡ s
      one_reply r s c b p q e = cc

  -- so what a call gives that reads it there is the answer
  pub inserted_step : {B : Type 0} {b : B} (x : VolumeState) (path levels : List ℕ) (reply : Reply) → IsRead {T = B} w (Ok b) x → IsTrue w.is_sound
      → path ≡ (slice_index_or new (number - 1) k).path → levels ≡ [] → IsGiven d w path levels Blank reply → IsStep d v st number (effect) reply x new
  inserted_step x path levels reply read sound same none given =
      let there = given_same d w path (slice_index_or new (number - 1) k).path levels [] Blank same none given in
      let row_is = there A.represents.placed i [] pcb (record { sound = sound; row = on_inserted; rows = refl; ascend = tt }) in
      record {
        change = A.change;
        own = A.own;
        is = A.is ∙ ap (λ (r : Reply). answered r A.change A.own) (inserted_reply ∙ sym row_is);
        represents = represented d w x new _ read sound A.represents;
        follows =
            subst (λ (image : List ℕ). Follows (images_of d) st.rows v.image A.change (state_after d.types st number (effect)).rows image)
            (sym (after-read d w x read sound).image) A.follows;
      }
