-- What DLET deletes in a state.
use Rattle.std.proofs.Common.{◌≡◌, ℕ, ◌<◌, ◌≤◌, List, length, refl, ap, sym, ◌∙◌, subst, Option, Some, None, arith}
use Rattle.std.specs.Prelude.{◌-◌, option_map, slice_index_or}
use Rattle.std.proofs.lemmas.List.{get_or_default}
use Rattle.std.specs.Option.{option_map_or}
use Rattle.hd_dbd.specs.Types.{View}
use Rattle.hd_dbd.specs.Hierarchy.{Database}
use Rattle.hd_dbd.specs.Segment.{Segment}
use Rattle.hd_dbd.specs.Positions.{Position}
use Rattle.hd_dbd.specs.declared.answer.Status.TheVariants.{DJ}
use Rattle.hd_calls.specs.Ssas.{Ssa}
use Rattle.hd_calls.specs.Steps.{State, bare_answer, position_at, deleted_row, delete_row}
use Rattle.hd_volume.specs.Volumes.{VolumeState}
use Rattle.hd_links.specs.Steps.{rows_of, address_at}
use Rattle.hd_image.specs.Records.{links_of}
use Rattle.hd_forest.specs.Rows.{IsOnRow}
use Rattle.hd_position.specs.Kept.{Kept, kept_start}
use Rattle.hd_update.specs.Calls.{delete_effect}
use Rattle.hd_update.specs.Deleting.{taken_row}
use Rattle.hd_update.specs.Paths.{path_up_to}
use Rattle.hd_update.specs.Held.{held_row, held_rows}
use Rattle.hd_update.specs.States.{Represents, kept_of}
use Rattle.hd_update.specs.declared.held.HeldRow.{HeldRow}
use Rattle.hd_update.proofs.Standing.{own_stands}
use Rattle.hd_update.proofs.Taken.{taken_is, path_to_held}

-- What is deleted: a row, and its path.
pub record Deletes (d : Database) (v : VolumeState) (kept : List Kept) (st : State) (number : ℕ) (R : Represents d v kept st) (ssas : List Ssa) (address : ℕ) : Type 0 where
  pub row : ℕ
  pub on : IsOnRow d.types (links_of d.types v) R.placed (path_up_to address (kept_of kept number).path) row
  pub effect : (pcb : View) → delete_effect d pcb number ssas st ≡ delete_row (record { types = d.types; pcb = pcb }) st.rows (position_at st number) row

-- the path that was cut is the PCB's own
pub path_is : (kept : List Kept) (number : ℕ) (k : Kept) (a : ℕ) (own part : List ℕ) → 0 < number → number ≤ length kept → own ≡ (slice_index_or kept (number - 1) k).path → part ≡ path_up_to a own
    → part ≡ path_up_to a (kept_of kept number).path
path_is kept number k a own part some within at is =
    is ∙ ap (path_up_to a) (at ∙ ap (λ (x : Kept). x.path) (get_or_default kept (number - 1) k kept_start (omega arith)))

none_mapped : {A B : Type 0} (g : A → B) (o : Option A) → None ≡ option_map g o → o ≡ None
none_mapped g None e = refl
none_mapped g (Some x) e = cc

some_mapped : {A B : Type 0} (g : A → B) (o : Option A) (y : B) → Some y ≡ option_map g o → (x : A) × (o ≡ Some x) × (y ≡ g x)
some_mapped g None y e = cc
some_mapped g (Some x) y e = (x, refl, (let s : y ≡ g x = cc in s))

module _ (d : Database) (v : VolumeState) (kept : List Kept) (st : State) (number : ℕ) (R : Represents d v kept st) (some : 0 < number) (within : number ≤ length kept)
    (ssas : List Ssa) (held : List HeldRow) (are : held ≡ held_rows R.placed (position_at st number).held) where
  abbrev p : Position
  p = position_at st number

  taken : taken_row ssas held ≡ option_map (held_row R.placed) (deleted_row (rows_of R.placed) ssas p.held)
  taken = ap (taken_row ssas) are ∙ taken_is R.placed ssas p.held

  effect_of_row : (pcb : View) (o : Option ℕ) → deleted_row (rows_of R.placed) ssas p.held ≡ o
      → delete_effect d pcb number ssas st ≡ option_map_or (λ i. delete_row (record { types = d.types; pcb = pcb }) st.rows p i) o (bare_answer p DJ)
  effect_of_row pcb o is =
      ap (λ (x : Option ℕ). option_map_or (λ i. delete_row (record { types = d.types; pcb = pcb }) st.rows p i) x (bare_answer p DJ))
      (ap (λ (rows : List Segment). deleted_row rows ssas p.held) (sym R.rows) ∙ is)

  -- nothing is
  pub deletes_none : (pcb : View) → None ≡ taken_row ssas held → delete_effect d pcb number ssas st ≡ bare_answer p DJ
  deletes_none pcb none = effect_of_row pcb None (none_mapped (held_row R.placed) (deleted_row (rows_of R.placed) ssas p.held) (none ∙ taken))

  -- a row is
  pub deletes : (row : HeldRow) → Some row ≡ taken_row ssas held → Deletes d v kept st number R ssas row.address
  deletes row is =
      let S = some_mapped (held_row R.placed) (deleted_row (rows_of R.placed) ssas p.held) row (is ∙ taken) in
      let at : row.address ≡ address_at R.placed S.0 = ap (λ (h : HeldRow). h.address) S.2 in
      record {
        row = S.0;
        on =
            subst (λ (a : ℕ). IsOnRow d.types (links_of d.types v) R.placed (path_up_to a (kept_of kept number).path) S.0) (sym at)
            (path_to_held d v R.placed R.holds.volume R.holds.records (kept_of kept number) p ssas S.0 (own_stands d v kept st number R some within) S.1);
        effect = λ pcb. effect_of_row pcb (Some S.0) S.1;
      }
