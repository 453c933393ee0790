use Rattle.std.proofs.Common.{◌≡◌, List, IsTrue, Err, refl, sym, ap, subst, ◌∙◌}
use Rattle.hd_dbd.specs.declared.answer.Status.TheVariants.{V1}
use Rattle.hd_calls.specs.Steps.{position_at, bare_answer, replace_rows}
use Rattle.hd_volume.proofs.CallSteps.{if-ok}
use Rattle.hd_volume.proofs.JoinLemmas.{if-err-map}
use Rattle.hd_forest.proofs.Reading.{after-read, sound-before}
use Rattle.hd_position.specs.Kept.{Kept}
use Rattle.hd_get.specs.declared.outcome.Outcome.{Outcome}
use Rattle.hd_get.specs.declared.outcome.Outcome.TheVariants.{Missing}
use Rattle.hd_update.specs.Calls.{replace_effect, AreAsked, rewrites_effect}
use Rattle.hd_update.specs.Held.{held_rows}
use Rattle.hd_update.specs.Positions.{unheld_at}
use Rattle.hd_update.specs.Replacing.{parts_held, AreInArea}
use Rattle.hd_update.specs.States.{IsAnswered}
use Rattle.hd_update.specs.declared.rewrites.NewBytes.{NewBytes}
use Rattle.hd_update.proofs.Answering.{answered_as, answered_before, bare_answered, represented, lacks_before, stores_before}
use Rattle.hd_update.proofs.Asked.{all_in_area}
use Rattle.hd_update.proofs.AskedStates.{HasParts, parts_of, fault_of, area_wrong, row_wrong, asks}
use Rattle.hd_update.proofs.Standing.{own_position}
use Rattle.hd_update.proofs.repl_call.repl.Goals as goal

pub held_rows-requires-clause-there : goal.held_rows-requires-clause-there
held_rows-requires-clause-there g c sound =
    let T = c.requires.state sound in (
      T.1.placed,
      position_at T.0 c.args.number,
      own_position c.args.dbd.now c.args.volume.now c.args.positions.now T.0 c.args.number T.1 c.requires.number.0 c.requires.number.1 sound c.index-positions-number.result,
    )

pub returns-in-Err-clause-done : goal.returns-in-Err-clause-done
returns-in-Err-clause-done g c = if-ok c.answer_fault.result c.answer_fault.ensures.length (λ o short pcb st sound R.
    let d = c.args.dbd.now in
    let v = c.args.volume.now in
    let w = c.held_rows.new.volume in
    let old : List Kept = c.args.positions.now in
    let at = own_position d v old st c.args.number R c.requires.number.0 c.requires.number.1 sound c.index-positions-number.result in
    let are : c.as_slice.result.now ≡ held_rows R.placed (position_at st c.args.number).held = c.as_slice.ensures.value ∙ c.in_ok-held.ensures.value R.placed (position_at st c.args.number) at in
    let fault = fault_of c.args.ssas.now c.as_slice.result.now (parts_held d.types c.args.ssas.now c.as_slice.result.now c.args.area.now) c.in-Err.fault (sym c.rewrites_of.ensures ∙ c.in-Err.is) ∙ ap Err short.0 in
    subst (λ (kept : List Kept). IsAnswered d v st c.args.number (replace_effect d pcb c.args.number c.args.ssas.now c.args.area.now st) o w kept) (sym short.2)
    (subst (λ (outcome : Outcome). IsAnswered d v st c.args.number (replace_effect d pcb c.args.number c.args.ssas.now c.args.area.now st) outcome w (unheld_at c.args.number old)) (sym short.1)
    (answered_as d v st c.args.number (bare_answer (position_at st c.args.number) V1) (replace_effect d pcb c.args.number c.args.ssas.now c.args.area.now st) (Missing V1) w (unheld_at c.args.number old)
    (row_wrong d v old st c.args.number R c.requires.number.0 c.requires.number.1 c.args.ssas.now c.args.area.now c.as_slice.result.now are pcb fault)
    (bare_answered d v w old st c.args.number V1 c.in_ok-held.ensures.read sound R c.requires.number.0 c.requires.number.1 refl))))

pub returns-in-Err-clause-area : goal.returns-in-Err-clause-area
returns-in-Err-clause-area g c = if-err-map c.answer_fault.result (λ e wrong pcb st is sound R.
    (let d = c.args.dbd.now in
    let v = c.args.volume.now in
    let old : List Kept = c.args.positions.now in
    let at = own_position d v old st c.args.number R c.requires.number.0 c.requires.number.1 sound c.index-positions-number.result in
    let are : c.as_slice.result.now ≡ held_rows R.placed (position_at st c.args.number).held = c.as_slice.ensures.value ∙ c.in_ok-held.ensures.value R.placed (position_at st c.args.number) at in
    area_wrong d v old st c.args.number R c.requires.number.0 c.requires.number.1 c.args.ssas.now c.args.area.now c.as_slice.result.now are pcb
    (fault_of c.args.ssas.now c.as_slice.result.now (parts_held d.types c.args.ssas.now c.as_slice.result.now c.args.area.now) c.in-Err.fault (sym c.rewrites_of.ensures ∙ c.in-Err.is) ∙ ap Err wrong.0)))
    c.answer_fault.ensures.bytes

pub replace_held-requires-clause-state : goal.replace_held-requires-clause-state
replace_held-requires-clause-state g c now =
    let d = c.args.dbd.now in
    let v = c.args.volume.now in
    let sound : IsTrue v.is_sound = sound-before v c.held_rows.new.volume c.in_ok-held.ensures.read now in
    let T = c.requires.state sound in
    let at = own_position d v c.args.positions.now T.0 c.args.number T.1 c.requires.number.0 c.requires.number.1 sound c.index-positions-number.result in
    let are : c.as_slice.result.now ≡ held_rows T.1.placed (position_at T.0 c.args.number).held = c.as_slice.ensures.value ∙ c.in_ok-held.ensures.value T.1.placed (position_at T.0 c.args.number) at in
    let P : HasParts c.args.ssas.now c.as_slice.result.now (parts_held d.types c.args.ssas.now c.as_slice.result.now c.args.area.now) c.in-Ok.news
    = parts_of c.args.ssas.now c.as_slice.result.now (parts_held d.types c.args.ssas.now c.as_slice.result.now c.args.area.now) c.in-Ok.news (sym c.rewrites_of.ensures ∙ c.in-Ok.is) in
    let A = asks d v c.args.positions.now T.0 c.args.number T.1 c.requires.number.0 c.requires.number.1 c.args.ssas.now c.args.area.now c.as_slice.result.now are c.in-Ok.news P in (
      T.0,
      A.rewrites,
      represented d v c.held_rows.new.volume c.args.positions.now T.0 c.in_ok-held.ensures.read sound T.1,
      subst (λ (ns : List NewBytes). AreAsked d c.held_rows.new.volume c.args.positions.now c.args.number c.args.area.now ns T.0 (represented d v c.held_rows.new.volume c.args.positions.now T.0 c.in_ok-held.ensures.read sound T.1) A.rewrites)
          (sym c.as_slice-2.ensures.value) (record { are = A.asked.are; on = A.asked.on }),
    )

pub returns-clause-done : goal.returns-clause-done
returns-clause-done g c = if-ok c.replace_held.result c.replace_held.ensures.done (λ o done pcb st sound R.
    let d = c.args.dbd.now in
    let v = c.args.volume.now in
    let mid = c.held_rows.new.volume in
    let w = c.replace_held.new.volume in
    let new = c.replace_held.new.positions in
    let same = after-read d v mid c.in_ok-held.ensures.read sound in
    let at = own_position d v c.args.positions.now st c.args.number R c.requires.number.0 c.requires.number.1 sound c.index-positions-number.result in
    let are : c.as_slice.result.now ≡ held_rows R.placed (position_at st c.args.number).held = c.as_slice.ensures.value ∙ c.in_ok-held.ensures.value R.placed (position_at st c.args.number) at in
    let P : HasParts c.args.ssas.now c.as_slice.result.now (parts_held d.types c.args.ssas.now c.as_slice.result.now c.args.area.now) c.in-Ok.news
    = parts_of c.args.ssas.now c.as_slice.result.now (parts_held d.types c.args.ssas.now c.as_slice.result.now c.args.area.now) c.in-Ok.news (sym c.rewrites_of.ensures ∙ c.in-Ok.is) in
    let A = asks d v c.args.positions.now st c.args.number R c.requires.number.0 c.requires.number.1 c.args.ssas.now c.args.area.now c.as_slice.result.now are c.in-Ok.news P in
    answered_as d v st c.args.number (replace_rows (record { types = d.types; pcb = pcb }) st.rows (position_at st c.args.number) A.rewrites)
    (replace_effect d pcb c.args.number c.args.ssas.now c.args.area.now st) o w new (A.effect pcb)
    (answered_before d v mid st c.args.number (replace_rows (record { types = d.types; pcb = pcb }) st.rows (position_at st c.args.number) A.rewrites) o w new same.image
    (done pcb st A.rewrites same.sound (represented d v mid c.args.positions.now st c.in_ok-held.ensures.read sound R)
    (subst (λ (ns : List NewBytes). AreAsked d mid c.args.positions.now c.args.number c.args.area.now ns st (represented d v mid c.args.positions.now st c.in_ok-held.ensures.read sound R) A.rewrites)
    (sym c.as_slice-2.ensures.value) (record { are = A.asked.are; on = A.asked.on })))))

pub replace_held-requires-clause-fit : goal.replace_held-requires-clause-fit
replace_held-requires-clause-fit g c =
    let d = c.args.dbd.now in
    let P : HasParts c.args.ssas.now c.as_slice.result.now (parts_held d.types c.args.ssas.now c.as_slice.result.now c.args.area.now) c.in-Ok.news
    = parts_of c.args.ssas.now c.as_slice.result.now (parts_held d.types c.args.ssas.now c.as_slice.result.now c.args.area.now) c.in-Ok.news (sym c.rewrites_of.ensures ∙ c.in-Ok.is) in
    subst (AreInArea d.types c.args.area.now) (sym (c.as_slice-2.ensures.value ∙ P.are)) (all_in_area d.types c.args.ssas.now c.args.area.now c.as_slice.result.now P.parts P.is)

pub returns-clause-full : goal.returns-clause-full
returns-clause-full g c = if-err-map c.replace_held.result (λ e full pcb st is sound R.
    (let d = c.args.dbd.now in
    let v = c.args.volume.now in
    let mid = c.held_rows.new.volume in
    let same = after-read d v mid c.in_ok-held.ensures.read sound in
    let at = own_position d v c.args.positions.now st c.args.number R c.requires.number.0 c.requires.number.1 sound c.index-positions-number.result in
    let are : c.as_slice.result.now ≡ held_rows R.placed (position_at st c.args.number).held = c.as_slice.ensures.value ∙ c.in_ok-held.ensures.value R.placed (position_at st c.args.number) at in
    let P : HasParts c.args.ssas.now c.as_slice.result.now (parts_held d.types c.args.ssas.now c.as_slice.result.now c.args.area.now) c.in-Ok.news
    = parts_of c.args.ssas.now c.as_slice.result.now (parts_held d.types c.args.ssas.now c.as_slice.result.now c.args.area.now) c.in-Ok.news (sym c.rewrites_of.ensures ∙ c.in-Ok.is) in
    let A = asks d v c.args.positions.now st c.args.number R c.requires.number.0 c.requires.number.1 c.args.ssas.now c.args.area.now c.as_slice.result.now are c.in-Ok.news P in
    lacks_before d v mid st.rows (rewrites_effect d pcb c.args.number st A.rewrites) (replace_effect d pcb c.args.number c.args.ssas.now c.args.area.now st) same.image (A.effect pcb)
    (full pcb st A.rewrites is same.sound (represented d v mid c.args.positions.now st c.in_ok-held.ensures.read sound R)
    (subst (λ (ns : List NewBytes). AreAsked d mid c.args.positions.now c.args.number c.args.area.now ns st (represented d v mid c.args.positions.now st c.in_ok-held.ensures.read sound R) A.rewrites)
    (sym c.as_slice-2.ensures.value) (record { are = A.asked.are; on = A.asked.on })))))
    c.replace_held.ensures.full

pub returns-clause-memory : goal.returns-clause-memory
returns-clause-memory g c = if-err-map c.replace_held.result (λ e memory is pcb st sound R.
    (let d = c.args.dbd.now in
    let v = c.args.volume.now in
    let mid = c.held_rows.new.volume in
    let same = after-read d v mid c.in_ok-held.ensures.read sound in
    let at = own_position d v c.args.positions.now st c.args.number R c.requires.number.0 c.requires.number.1 sound c.index-positions-number.result in
    let are : c.as_slice.result.now ≡ held_rows R.placed (position_at st c.args.number).held = c.as_slice.ensures.value ∙ c.in_ok-held.ensures.value R.placed (position_at st c.args.number) at in
    let P : HasParts c.args.ssas.now c.as_slice.result.now (parts_held d.types c.args.ssas.now c.as_slice.result.now c.args.area.now) c.in-Ok.news
    = parts_of c.args.ssas.now c.as_slice.result.now (parts_held d.types c.args.ssas.now c.as_slice.result.now c.args.area.now) c.in-Ok.news (sym c.rewrites_of.ensures ∙ c.in-Ok.is) in
    let A = asks d v c.args.positions.now st c.args.number R c.requires.number.0 c.requires.number.1 c.args.ssas.now c.args.area.now c.as_slice.result.now are c.in-Ok.news P in
    stores_before st.rows (rewrites_effect d pcb c.args.number st A.rewrites) (replace_effect d pcb c.args.number c.args.ssas.now c.args.area.now st) (A.effect pcb)
    (memory is pcb st A.rewrites same.sound (represented d v mid c.args.positions.now st c.in_ok-held.ensures.read sound R)
    (subst (λ (ns : List NewBytes). AreAsked d mid c.args.positions.now c.args.number c.args.area.now ns st (represented d v mid c.args.positions.now st c.in_ok-held.ensures.read sound R) A.rewrites)
    (sym c.as_slice-2.ensures.value) (record { are = A.asked.are; on = A.asked.on })))))
    c.replace_held.ensures.memory
