-- What rows that go in below a parent come to in a state.
use Rattle.std.proofs.Common.{◌≡◌, ℕ, ◌+◌, ◌-◌, ◌<◌, ◌≤◌, List, ◌∷◌, [], length, true, false, IsTrue, Ok, Option, refl, ap, ap₂, sym, ◌∙◌, subst, arith}
use Rattle.std.proofs.lemmas.Bool.{cond-true, cond-false}
use Rattle.std.specs.Prelude.{slice_index_or}
use Rattle.hd_dbd.specs.declared.hierarchy.Rule.{Rule}
use Rattle.hd_dbd.specs.declared.answer.Status.TheVariants.{Blank, II}
use Rattle.hd_dbd.specs.Types.{View}
use Rattle.hd_dbd.specs.Hierarchy.{Database}
use Rattle.hd_dbd.specs.Segment.{Segment}
use Rattle.hd_dbd.specs.Rows.{row_fits}
use Rattle.hd_dbd.specs.Positions.{Position}
use Rattle.hd_dbd.specs.Views.{Setting}
use Rattle.hd_dbd.specs.Calls.{row_reply}
use Rattle.hd_dbd.specs.Forest.{Forest}
use Rattle.hd_calls.specs.Moves.{inserted, put_in, position_after}
use Rattle.hd_calls.specs.Places.{is_key_taken, insertion_point}
use Rattle.hd_calls.specs.Runs.{LacksRoom, has_root}
use Rattle.hd_calls.specs.Steps.{State, position_at, bare_answer, insert_at, onto_new}
use Rattle.hd_volume.specs.Calls.{IsRead}
use Rattle.hd_volume.specs.Volumes.{VolumeState}
use Rattle.hd_links.specs.Links.{Links}
use Rattle.hd_links.specs.Placed.{Placed}
use Rattle.hd_links.specs.Steps.{rows_of}
use Rattle.hd_forest.specs.Updates.{MayLink}
use Rattle.hd_forest.specs.Walks.{tip}
use Rattle.hd_forest.proofs.Reading.{after-read}
use Rattle.hd_changes.specs.VolumeImages.{images_of}
use Rattle.hd_position.specs.Kept.{Kept}
use Rattle.hd_get.specs.Gets.{IsPositionIn}
use Rattle.hd_update.specs.Inserting.{IsUnder, insert_under, IsPlaceFor}
use Rattle.hd_update.specs.States.{LacksRoomFor}
use Rattle.hd_update.specs.NewRows.{GoDown}
use Rattle.hd_update.specs.Places.{IsPlaceOf, IsPlaceFound, IsPlaceBelow}
use Rattle.hd_update.proofs.Answering.{represented}
use Rattle.hd_update.proofs.PlacedUnder.{few_rows, placed_for}
use Rattle.hd_update.proofs.Standing.{own_position}

-- a place in a volume is one after calls that only read
place_read : {A : Type 0} {x : A} (d : Database) (v w : VolumeState) (f : Forest Placed) (parent standing : Option ℕ) (rule : Rule) (row : Segment) (h y : ℕ) → IsRead {T = A} v (Ok x) w → IsTrue v.is_sound
    → IsPlaceOf d v f parent standing rule row h y → IsPlaceOf d w f parent standing rule row h y
place_read d v w f parent standing rule row h y read sound P = record {
  free = P.free;
  may = subst (λ (m : Links). MayLink d.types m h y row) (sym (after-read d v w read sound).links) P.may;
  at = P.at;
}

module _ (d : Database) (v : VolumeState) (old : List Kept) (st : State) (number : ℕ) (some : 0 < number) (within : number ≤ length old) (above : List ℕ) (rule : Rule) (row : Segment) (rest rows : List Segment)
    (rows_are : rows ≡ row ∷ rest) (fits : row_fits d.types row ≡ true) (down : GoDown d.types row.code rest) (parent : Option ℕ) (U : IsUnder d v old st above row.code parent) where
  abbrev f : Forest Placed
  f = U.represents.placed

  abbrev p : Position
  p = position_at st number

  abbrev n : ℕ
  n = insertion_point d.types (rows_of f) parent p.standing rule row

  abbrev setting : View → Setting
  setting pcb = record { types = d.types; pcb = pcb }

  -- what is found there
  pub found : (k : Kept) (place : Option ℕ) → IsPositionIn d v f k p → IsPlaceBelow d v above k rule row place → IsPlaceFound d v f parent p.standing rule row (tip above) place
  found k place at value = value f p parent at U.path U.typed

  pub own_at : (k : Kept) → IsPositionIn d v f (slice_index_or old (number - 1) k) p
  own_at k = own_position d v old st number U.represents some within U.sound k

  -- in the rows of the state
  pub under_taken : (pcb : View) → is_key_taken d.types (rows_of f) parent row ≡ true → insert_under (setting pcb) st.rows p rule parent rows ≡ bare_answer p II
  under_taken pcb taken =
      ap (λ (rs : List Segment). insert_under (setting pcb) st.rows p rule parent rs) rows_are
      ∙ cond-true (is_key_taken d.types st.rows parent row) _ _ (ap (λ (rs : List Segment). is_key_taken d.types rs parent row) (sym U.represents.rows) ∙ taken)

  pub under_free : (pcb : View) → is_key_taken d.types (rows_of f) parent row ≡ false → insert_under (setting pcb) st.rows p rule parent rows ≡ insert_at (setting pcb) st.rows p rows n
  under_free pcb free =
      ap (λ (rs : List Segment). insert_under (setting pcb) st.rows p rule parent rs) rows_are
      ∙ cond-false (is_key_taken d.types st.rows parent row) _ _ (ap (λ (rs : List Segment). is_key_taken d.types rs parent row) (sym U.represents.rows) ∙ free)
      ∙ ap₂ (λ (rs news : List Segment). insert_at (setting pcb) st.rows p news (insertion_point d.types rs parent p.standing rule row)) (sym U.represents.rows) (sym rows_are)

  pub few : length above + length rows ≤ 15
  few =
      (let same : length rows ≡ length (row ∷ rest) = ap (λ (rs : List Segment). length rs) rows_are in
      let most : length above + length (row ∷ rest) ≤ 15 = few_rows d v f U.represents.holds above parent row rest U.path U.typed fits down in omega arith)

  -- after the place was sought
  pub placed : {A : Type 0} {x : A} (w : VolumeState) (y : ℕ) → IsRead {T = A} v (Ok x) w → IsPlaceOf d v f parent p.standing rule row (tip above) y → IsPlaceFor d w f above y rows parent n
  placed w y read P =
      subst (λ (rs : List Segment). IsPlaceFor d w f above y rs parent n) (sym rows_are)
      (let R = represented d v w old st read U.sound U.represents in
      placed_for d w f R.holds above parent row rest U.path U.typed fits down p.standing rule y (place_read d v w f parent p.standing rule row (tip above) y read U.sound P) R.later)

  -- there is no room
  pub lacks : (pcb : View) → is_key_taken d.types (rows_of f) parent row ≡ false → LacksRoom (images_of d) d.types v.image rows (has_root rows) → LacksRoomFor d v st.rows (insert_under (setting pcb) st.rows p rule parent rows)
  lacks pcb free none = record {
    reply = row_reply (setting pcb) (put_in n rows st.rows) (n + length rows - 1) Blank [];
    change = inserted n rows;
    own = onto_new d.types (put_in n rows st.rows) (position_after d.types st.rows (inserted n rows) p) (n + length rows - 1);
    is = under_free pcb free;
    blank = refl;
    lacks = none;
  }
