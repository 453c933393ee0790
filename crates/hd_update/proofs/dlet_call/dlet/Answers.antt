use Rattle.std.proofs.Common.{◌≡◌, ℕ, List, IsTrue, refl, sym, subst, ◌∙◌}
use Rattle.hd_dbd.specs.declared.answer.Status.TheVariants.{DJ}
use Rattle.hd_calls.specs.Steps.{bare_answer, position_at, delete_row}
use Rattle.hd_volume.proofs.CallSteps.{if-ok}
use Rattle.hd_links.specs.Links.{Links}
use Rattle.hd_image.specs.Records.{links_of}
use Rattle.hd_forest.specs.Rows.{IsOnRow}
use Rattle.hd_forest.proofs.Reading.{after-read, sound-before}
use Rattle.hd_position.specs.Kept.{Kept}
use Rattle.hd_get.specs.declared.outcome.Outcome.TheVariants.{Missing}
use Rattle.hd_update.specs.Calls.{delete_effect}
use Rattle.hd_update.specs.Paths.{path_up_to}
use Rattle.hd_update.specs.Held.{held_rows}
use Rattle.hd_update.specs.Positions.{unheld_at}
use Rattle.hd_update.specs.States.{IsAnswered, kept_of}
use Rattle.hd_update.proofs.Answering.{answered_as, answered_before, bare_answered, represented}
use Rattle.hd_update.proofs.DeletedStates.{deletes_none, deletes, path_is}
use Rattle.hd_update.proofs.Standing.{own_position}
use Rattle.hd_update.proofs.dlet_call.dlet.Goals as goal

pub held_rows-requires-clause-there : goal.held_rows-requires-clause-there
held_rows-requires-clause-there g c sound =
    let T = c.requires.state sound in (
      T.1.placed,
      position_at T.0 c.args.number,
      own_position c.args.dbd.now c.args.volume.now c.args.positions.now T.0 c.args.number T.1 c.requires.number.0 c.requires.number.1 sound c.index-positions-number.result,
    )

-- the rows that were read are the held rows of any state
pub returns-in_default-clause-done : goal.returns-in_default-clause-done
returns-in_default-clause-done g c pcb st sound R =
    let d = c.args.dbd.now in
    let v = c.args.volume.now in
    let w = c.held_rows.new.volume in
    let old : List Kept = c.args.positions.now in
    let at = own_position d v old st c.args.number R c.requires.number.0 c.requires.number.1 sound c.index-positions-number.result in
    let are : c.as_slice.result.now ≡ held_rows R.placed (position_at st c.args.number).held = c.as_slice.ensures.value ∙ c.in_ok-held.ensures.value R.placed (position_at st c.args.number) at in
    subst (λ (kept : List Kept). IsAnswered d v st c.args.number (delete_effect d pcb c.args.number c.args.ssas.now st) (Missing DJ) w kept) (sym c.end_hold.ensures)
    (answered_as d v st c.args.number (bare_answer (position_at st c.args.number) DJ) (delete_effect d pcb c.args.number c.args.ssas.now st) (Missing DJ) w (unheld_at c.args.number old)
    (deletes_none d v old st c.args.number R c.requires.number.0 c.requires.number.1 c.args.ssas.now c.as_slice.result.now are pcb c.in_default.ensures)
    (bare_answered d v w old st c.args.number DJ c.in_ok-held.ensures.read sound R c.requires.number.0 c.requires.number.1 refl))

pub delete_row-requires-clause-state : goal.delete_row-requires-clause-state
delete_row-requires-clause-state g c now =
    let d = c.args.dbd.now in
    let v = c.args.volume.now in
    let w = c.held_rows.new.volume in
    let old : List Kept = c.args.positions.now in
    let sound : IsTrue v.is_sound = sound-before v w c.in_ok-held.ensures.read now in
    let T = c.requires.state sound in
    let at = own_position d v old T.0 c.args.number T.1 c.requires.number.0 c.requires.number.1 sound c.index-positions-number.result in
    let are : c.as_slice.result.now ≡ held_rows T.1.placed (position_at T.0 c.args.number).held = c.as_slice.ensures.value ∙ c.in_ok-held.ensures.value T.1.placed (position_at T.0 c.args.number) at in
    let D = deletes d v old T.0 c.args.number T.1 c.requires.number.0 c.requires.number.1 c.args.ssas.now c.as_slice.result.now are c.in-Some.row c.in-Some.ensures in
    let same = after-read d v w c.in_ok-held.ensures.read sound in
    let path = path_is old c.args.number c.index-positions-number-2.result c.in-Some.row.address c.path.result.now c.path_up_to-path.result c.requires.number.0 c.requires.number.1 c.path.ensures c.path_up_to-path.ensures in (
      T.0,
      D.row,
      represented d v w old T.0 c.in_ok-held.ensures.read sound T.1,
      subst (λ (xs : List ℕ). IsOnRow d.types (links_of d.types w) T.1.placed xs D.row) (sym path)
          (subst (λ (m : Links). IsOnRow d.types m T.1.placed (path_up_to c.in-Some.row.address (kept_of old c.args.number).path) D.row) (sym same.links) D.on),
    )

pub returns-clause-done : goal.returns-clause-done
returns-clause-done g c = if-ok c.delete_row.result c.delete_row.ensures.done (λ o done pcb st sound R.
    let d = c.args.dbd.now in
    let v = c.args.volume.now in
    let mid = c.held_rows.new.volume in
    let w = c.delete_row.new.volume in
    let new : List Kept = c.delete_row.new.positions in
    let old : List Kept = c.args.positions.now in
    let at = own_position d v old st c.args.number R c.requires.number.0 c.requires.number.1 sound c.index-positions-number.result in
    let are : c.as_slice.result.now ≡ held_rows R.placed (position_at st c.args.number).held = c.as_slice.ensures.value ∙ c.in_ok-held.ensures.value R.placed (position_at st c.args.number) at in
    let D = deletes d v old st c.args.number R c.requires.number.0 c.requires.number.1 c.args.ssas.now c.as_slice.result.now are c.in-Some.row c.in-Some.ensures in
    let same = after-read d v mid c.in_ok-held.ensures.read sound in
    let path = path_is old c.args.number c.index-positions-number-2.result c.in-Some.row.address c.path.result.now c.path_up_to-path.result c.requires.number.0 c.requires.number.1 c.path.ensures c.path_up_to-path.ensures in
    answered_as d v st c.args.number (delete_row (record { types = d.types; pcb = pcb }) st.rows (position_at st c.args.number) D.row) (delete_effect d pcb c.args.number c.args.ssas.now st) o w new (D.effect pcb)
    (answered_before d v mid st c.args.number (delete_row (record { types = d.types; pcb = pcb }) st.rows (position_at st c.args.number) D.row) o w new same.image
    (done pcb st D.row same.sound (represented d v mid old st c.in_ok-held.ensures.read sound R)
    (subst (λ (xs : List ℕ). IsOnRow d.types (links_of d.types mid) R.placed xs D.row) (sym path)
    (subst (λ (m : Links). IsOnRow d.types m R.placed (path_up_to c.in-Some.row.address (kept_of old c.args.number).path) D.row) (sym same.links) D.on)))))
