use Rattle.std.proofs.Common.{◌≡◌, ℕ, [], ◌∷◌, List, Some, Err, refl, sym, ap, subst, ◌∙◌}
use Rattle.hd_dbd.specs.declared.answer.Status.{Status}
use Rattle.hd_dbd.specs.declared.answer.Status.TheVariants.{V1}
use Rattle.hd_dbd.specs.Segment.{Segment}
use Rattle.hd_dbd.specs.Loads.{last_path, load_fault, status_of_load}
use Rattle.hd_calls.specs.Runs.{LacksRoom, has_root}
use Rattle.hd_calls.specs.Steps.{Effect, bare_answer, position_at, load_step}
use Rattle.hd_volume.proofs.CallSteps.{if-ok, read-none}
use Rattle.hd_volume.proofs.JoinLemmas.{if-err-map}
use Rattle.hd_forest.proofs.Reading.{after-read, sound-before}
use Rattle.hd_changes.specs.VolumeImages.{images_of}
use Rattle.hd_position.specs.Kept.{Kept}
use Rattle.hd_get.specs.declared.outcome.Outcome.{Outcome}
use Rattle.hd_get.specs.declared.outcome.Outcome.TheVariants.{Missing}
use Rattle.hd_update.specs.Inserting.{insert_effect}
use Rattle.hd_update.specs.Loading.{HasLastPath}
use Rattle.hd_update.specs.NewRows.{parts_in}
use Rattle.hd_update.specs.Positions.{unheld_at}
use Rattle.hd_update.specs.States.{IsAnswered}
use Rattle.hd_update.proofs.Answering.{answered_as, answered_before, bare_answered, represented}
use Rattle.hd_update.proofs.LastPaths.{last_read}
use Rattle.hd_update.proofs.LoadSteps.{one_row, row_wrong, load_lacks, loads_row, loads_none, path_kept, fault_in, fault_answered}
use Rattle.hd_update.proofs.RowsIn.{faultless, at_fault}
use Rattle.hd_update.proofs.load_call.load_row.Goals as goal

pub returns-in-Some-clause-done : goal.returns-in-Some-clause-done
returns-in-Some-clause-done g c = if-ok c.answer_fault.result c.answer_fault.ensures.length (λ o short pcb ssas I st sound R.
    let d = c.args.dbd.now in
    let v = c.args.volume.now in
    let area : List ℕ = c.args.area.now in
    let old : List Kept = c.args.positions.now in
    let n : ℕ = c.args.number in
    let effect : Effect = insert_effect d pcb n ssas area st in
    let fault = at_fault (parts_in d.types (c.args.code ∷ []) area) c.in-Some.fault (sym c.row_fault.ensures ∙ c.in-Some.is) ∙ ap Err short.0 in
    subst (λ (kept : List Kept). IsAnswered d v st n effect o v kept) (sym short.2)
    (subst (λ (outcome : Outcome). IsAnswered d v st n effect outcome v (unheld_at n old)) (sym short.1)
    (answered_as d v st n (bare_answer (position_at st n) V1) effect (Missing V1) v (unheld_at n old)
    (row_wrong d c.args.code area pcb ssas I st n fault)
    (bare_answered {A = ℕ} d v v old st n V1 (read-none v 0) sound R c.requires.number.0 c.requires.number.1 refl))))

pub returns-in-Some-clause-area : goal.returns-in-Some-clause-area
returns-in-Some-clause-area g c = if-err-map c.answer_fault.result (λ e wrong pcb ssas I st is sound R.
    loads_none c.args.dbd.now c.args.code c.args.area.now pcb ssas I st c.args.number
    (at_fault (parts_in c.args.dbd.now.types (c.args.code ∷ []) c.args.area.now) c.in-Some.fault (sym c.row_fault.ensures ∙ c.in-Some.is) ∙ ap Err wrong.0))
    c.answer_fault.ensures.bytes

pub load_fault-requires : goal.load_fault-requires
load_fault-requires g c = record {
  last = path_kept c.args.dbd.now c.args.volume.now c.args.positions.now c.args.number c.index-positions-number.result c.copy-path.result c.requires.number.0 c.requires.number.1 c.requires.last
      (c.copy-path.ensures ∙ c.path.ensures);
}

pub returns-in-Some-2-clause-done : goal.returns-in-Some-2-clause-done
returns-in-Some-2-clause-done g c pcb ssas I st sound R =
    let d = c.args.dbd.now in
    let v = c.args.volume.now in
    let w = c.load_fault.new.volume in
    let old : List Kept = c.args.positions.now in
    let n : ℕ = c.args.number in
    let row : Segment = record { code = c.args.code; bytes = c.args.area.now } in
    let last : HasLastPath d v c.copy-path.result
    = path_kept d v old n c.index-positions-number.result c.copy-path.result c.requires.number.0 c.requires.number.1 c.requires.last (c.copy-path.ensures ∙ c.path.ensures) in
    let fault : load_fault d.types (last_path d.types st.rows) row ≡ Some c.in-Some-2.fault
    = fault_in d v old st c.copy-path.result row c.in_ok-fault.field-0 last c.in_ok-fault.ensures.value sound R ∙ c.in-Some-2.is in
    subst (λ (kept : List Kept). IsAnswered d v st n (insert_effect d pcb n ssas c.args.area.now st) (Missing c.status_of.result) w kept) (sym c.end_hold.ensures)
    (subst (λ (status : Status). IsAnswered d v st n (insert_effect d pcb n ssas c.args.area.now st) (Missing status) w (unheld_at n old)) (sym c.status_of.ensures)
    (answered_as d v st n (load_step (record { types = d.types; pcb = pcb }) st.rows (position_at st n) row) (insert_effect d pcb n ssas c.args.area.now st)
    (Missing (status_of_load c.in-Some-2.fault)) w (unheld_at n old)
    (loads_row d c.args.code c.args.area.now pcb ssas I st n (one_row d.types c.args.code c.args.area.now (faultless (parts_in d.types (c.args.code ∷ []) c.args.area.now) (sym c.row_fault.ensures ∙ c.in_default.is))))
    (fault_answered d pcb v w old st n row c.in-Some-2.fault c.in_ok-fault.ensures.read sound R c.requires.number.0 c.requires.number.1 fault)))

pub load_behind-requires-clause-may : goal.load_behind-requires-clause-may
load_behind-requires-clause-may g c now =
    let d = c.args.dbd.now in
    let v = c.args.volume.now in
    let w = c.load_fault.new.volume in
    let row : Segment = record { code = c.args.code; bytes = c.args.area.now } in
    let last : HasLastPath d v c.copy-path.result
    = path_kept d v c.args.positions.now c.args.number c.index-positions-number.result c.copy-path.result c.requires.number.0 c.requires.number.1 c.requires.last (c.copy-path.ensures ∙ c.path.ensures) in
    let L = last (sound-before v w c.in_ok-fault.ensures.read now) in
    (L.0, last_read d v w c.in_ok-fault.ensures.read c.copy-path.result L.0 L.1, sym (c.in_ok-fault.ensures.value L.0 L.1) ∙ c.in_default-2.is)

pub returns-clause-done : goal.returns-clause-done
returns-clause-done g c = if-ok c.load_behind.result c.load_behind.ensures.done (λ o done pcb ssas I st sound R.
    let d = c.args.dbd.now in
    let v = c.args.volume.now in
    let mid = c.load_fault.new.volume in
    let w = c.load_behind.new.volume in
    let old : List Kept = c.args.positions.now in
    let n : ℕ = c.args.number in
    let row : Segment = record { code = c.args.code; bytes = c.args.area.now } in
    let same = after-read d v mid c.in_ok-fault.ensures.read sound in
    answered_as d v st n (load_step (record { types = d.types; pcb = pcb }) st.rows (position_at st n) row) (insert_effect d pcb n ssas c.args.area.now st) o w c.load_behind.new.positions
    (loads_row d c.args.code c.args.area.now pcb ssas I st n (one_row d.types c.args.code c.args.area.now (faultless (parts_in d.types (c.args.code ∷ []) c.args.area.now) (sym c.row_fault.ensures ∙ c.in_default.is))))
    (answered_before d v mid st n (load_step (record { types = d.types; pcb = pcb }) st.rows (position_at st n) row) o w c.load_behind.new.positions same.image
    (done pcb st same.sound (represented d v mid old st c.in_ok-fault.ensures.read sound R))))

pub returns-clause-full : goal.returns-clause-full
returns-clause-full g c = if-err-map c.load_behind.result (λ e full pcb ssas st I is sound R.
    (let d = c.args.dbd.now in
    let v = c.args.volume.now in
    let mid = c.load_fault.new.volume in
    let old : List Kept = c.args.positions.now in
    let row : Segment = record { code = c.args.code; bytes = c.args.area.now } in
    let same = after-read d v mid c.in_ok-fault.ensures.read sound in
    let last : HasLastPath d v c.copy-path.result
    = path_kept d v old c.args.number c.index-positions-number.result c.copy-path.result c.requires.number.0 c.requires.number.1 c.requires.last (c.copy-path.ensures ∙ c.path.ensures) in
    load_lacks d pcb c.args.number c.args.code ssas c.args.area.now v st I (one_row d.types c.args.code c.args.area.now (faultless (parts_in d.types (c.args.code ∷ []) c.args.area.now) (sym c.row_fault.ensures ∙ c.in_default.is)))
    (fault_in d v old st c.copy-path.result row c.in_ok-fault.field-0 last c.in_ok-fault.ensures.value sound R ∙ c.in_default-2.is)
    (subst (λ (x : List ℕ). LacksRoom (images_of d) d.types x (row ∷ []) (has_root (row ∷ []))) same.image (full is same.sound)))) c.load_behind.ensures.full
