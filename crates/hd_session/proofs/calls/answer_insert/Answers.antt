use Rattle.std.proofs.Common.{◌∙◌, length, sym}
use Rattle.hd_volume.proofs.CallSteps.{if-ok}
use Rattle.hd_volume.proofs.JoinLemmas.{if-err-map}
use Rattle.hd_update.specs.Loading.{InsertsOne}
use Rattle.hd_session.proofs.LoadArguments.{is_none, is_some_number, none_inserted, inserts_one, inserts_typed}
use Rattle.hd_session.proofs.calls.answer_insert.Goals as goal

pub returns-then-is_empty-clause-area : goal.returns-then-is_empty-clause-area
returns-then-is_empty-clause-area g c st is sound R = none_inserted c.args.dbd.now c.args.pcb.now c.args.number c.args.ssas.now c.args.area.now st (is_none (length c.args.ssas.now) c.is_empty.result c.is_empty.ensures c.if-is_empty.true)

-- ---- a PCB that does not load

pub returns-then-not-loads-clause-done : goal.returns-then-not-loads-clause-done
returns-then-not-loads-clause-done g c = if-ok c.answer_isrt.result c.answer_isrt.ensures.done (λ a done. done c.args.pcb.now (sym c.loads.ensures ∙ c.if-not-loads.true))

pub returns-then-not-loads-clause-area : goal.returns-then-not-loads-clause-area
returns-then-not-loads-clause-area g c = if-err-map c.answer_isrt.result (λ e area. area c.args.pcb.now (sym c.loads.ensures ∙ c.if-not-loads.true)) c.answer_isrt.ensures.area

pub returns-then-not-loads-clause-full : goal.returns-then-not-loads-clause-full
returns-then-not-loads-clause-full g c = if-err-map c.answer_isrt.result (λ e full st. full c.args.pcb.now st (sym c.loads.ensures ∙ c.if-not-loads.true)) c.answer_isrt.ensures.full

-- ---- a load

pub answer_load-requires-clause-typed : goal.answer_load-requires-clause-typed
answer_load-requires-clause-typed g c =
    let I : InsertsOne c.args.pcb.now c.args.ssas.now c.code.result
    = inserts_one c.args.dbd.now c.args.pcb.now c.args.ssas.now c.index-ssas-0.result c.code.result c.requires.arguments (sym c.loads.ensures ∙ c.if-not-loads.false) (is_some_number (length c.args.ssas.now) c.is_empty.result c.is_empty.ensures c.if-is_empty.false) c.index-ssas-0.is c.code.ensures in
    inserts_typed c.args.dbd.now c.args.pcb.now c.args.ssas.now c.code.result c.requires.arguments I

pub returns-clause-done : goal.returns-clause-done
returns-clause-done g c = if-ok c.answer_load.result c.answer_load.ensures.done (λ a done.
    let I : InsertsOne c.args.pcb.now c.args.ssas.now c.code.result
    = inserts_one c.args.dbd.now c.args.pcb.now c.args.ssas.now c.index-ssas-0.result c.code.result c.requires.arguments (sym c.loads.ensures ∙ c.if-not-loads.false) (is_some_number (length c.args.ssas.now) c.is_empty.result c.is_empty.ensures c.if-is_empty.false) c.index-ssas-0.is c.code.ensures in
    done c.args.pcb.now c.args.ssas.now I)

pub returns-clause-area : goal.returns-clause-area
returns-clause-area g c = if-err-map c.answer_load.result (λ e area.
    let I : InsertsOne c.args.pcb.now c.args.ssas.now c.code.result
    = inserts_one c.args.dbd.now c.args.pcb.now c.args.ssas.now c.index-ssas-0.result c.code.result c.requires.arguments (sym c.loads.ensures ∙ c.if-not-loads.false) (is_some_number (length c.args.ssas.now) c.is_empty.result c.is_empty.ensures c.if-is_empty.false) c.index-ssas-0.is c.code.ensures in
    area c.args.pcb.now c.args.ssas.now I) c.answer_load.ensures.area

pub returns-clause-full : goal.returns-clause-full
returns-clause-full g c = if-err-map c.answer_load.result (λ e full st.
    let I : InsertsOne c.args.pcb.now c.args.ssas.now c.code.result
    = inserts_one c.args.dbd.now c.args.pcb.now c.args.ssas.now c.index-ssas-0.result c.code.result c.requires.arguments (sym c.loads.ensures ∙ c.if-not-loads.false) (is_some_number (length c.args.ssas.now) c.is_empty.result c.is_empty.ensures c.if-is_empty.false) c.index-ssas-0.is c.code.ensures in
    full c.args.pcb.now c.args.ssas.now st I)
    c.answer_load.ensures.full
