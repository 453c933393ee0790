use Rattle.std.proofs.Common.{◌≡◌, ℕ, ◌-◌, List, length, take, drop, Option, Err, refl, sym, ap, subst, ◌∙◌}
use Rattle.std.specs.Prelude.{slice_index_or}
use Rattle.hd_dbd.specs.declared.answer.Status.TheVariants.{GE, V1}
use Rattle.hd_dbd.specs.Views.{Setting}
use Rattle.hd_get.specs.declared.outcome.Outcome.{Outcome}
use Rattle.hd_get.specs.declared.outcome.Outcome.TheVariants.{Missing}
use Rattle.hd_volume.proofs.CallSteps.{if-ok, read-none}
use Rattle.hd_volume.proofs.JoinLemmas.{if-err-map}
use Rattle.hd_calls.specs.declared.call.AreaFault.TheVariants.{Length}
use Rattle.hd_calls.specs.Places.{rule_of, rule_under}
use Rattle.hd_calls.specs.Ssas.{Ssa}
use Rattle.hd_calls.specs.Steps.{Effect, bare_answer, position_at, inserted_codes}
use Rattle.hd_position.specs.Kept.{Kept}
use Rattle.hd_update.specs.Inserting.{insert_effect, IsParentAsked, IsInsertDone}
use Rattle.hd_update.specs.NewRows.{codes_of, first_code, parts_in, rows_in}
use Rattle.hd_update.specs.Positions.{unheld_at}
use Rattle.hd_update.specs.States.{IsAnswered}
use Rattle.hd_update.proofs.Answering.{answered_as, bare_answered}
use Rattle.hd_update.proofs.InsertArguments.{within, front_descends, code_typed, target, some_left, few_left, steps_left, codes_left, first_is, there, one_code}
use Rattle.hd_update.proofs.InsertCalls.{area_wrong, row_wrong}
use Rattle.hd_update.proofs.AskedInserts.{IsCut, cut_at, answered_none, has_parent, done_below, full_below}
use Rattle.hd_update.proofs.RowsIn.{faultless, at_fault}
use Rattle.hd_update.proofs.Standing.{own_position}
use Rattle.hd_update.proofs.isrt_call.isrt.Goals as goal

pub returns-in-Some-clause-done : goal.returns-in-Some-clause-done
returns-in-Some-clause-done g c = if-ok c.answer_fault.result c.answer_fault.ensures.length (λ o short pcb normal st sound R.
    let d = c.args.dbd.now in
    let v = c.args.volume.now in
    let ssas : List Ssa = c.args.ssas.now in
    let area : List ℕ = c.args.area.now in
    let old : List Kept = c.args.positions.now in
    let s : Setting = record { types = d.types; pcb = pcb } in
    let effect : Effect = insert_effect d pcb c.args.number ssas area st in
    let fault : parts_in d.types (inserted_codes ssas) area ≡ Err Length
    = ap (λ (cs : List ℕ). parts_in d.types cs area) (sym (codes_left d.types ssas c.requires.arguments c.requires.some c.first_inserted-first.result c.first_inserted-first.ensures.value))
    ∙ at_fault (parts_in d.types (codes_of (take (length ssas - c.first_inserted-first.result) (drop c.first_inserted-first.result ssas))) area) c.in-Some.fault (sym c.area_fault.ensures ∙ c.in-Some.is) ∙ ap Err short.0 in
    subst (λ (kept : List Kept). IsAnswered d v st c.args.number effect o v kept) (sym short.2)
    (subst (λ (outcome : Outcome). IsAnswered d v st c.args.number effect outcome v (unheld_at c.args.number old)) (sym short.1)
    (answered_as d v st c.args.number (bare_answer (position_at st c.args.number) V1) effect (Missing V1) v (unheld_at c.args.number old)
    (row_wrong s st.rows (position_at st c.args.number) ssas area fault)
    (bare_answered {A = ℕ} d v v old st c.args.number V1 (read-none v 0) sound R c.requires.number.0 c.requires.number.1 refl))))

pub returns-in-Some-clause-area : goal.returns-in-Some-clause-area
returns-in-Some-clause-area g c = if-err-map c.answer_fault.result (λ e wrong pcb normal st is sound R.
    (let d = c.args.dbd.now in
    let ssas : List Ssa = c.args.ssas.now in
    let area : List ℕ = c.args.area.now in
    area_wrong (record { types = d.types; pcb = pcb }) st.rows (position_at st c.args.number) ssas area
    (ap (λ (cs : List ℕ). parts_in d.types cs area) (sym (codes_left d.types ssas c.requires.arguments c.requires.some c.first_inserted-first.result c.first_inserted-first.ensures.value))
    ∙ at_fault (parts_in d.types (codes_of (take (length ssas - c.first_inserted-first.result) (drop c.first_inserted-first.result ssas))) area) c.in-Some.fault (sym c.area_fault.ensures ∙ c.in-Some.is) ∙ ap Err wrong.0)))
    c.answer_fault.ensures.bytes

pub bounds-ssas-first : goal.bounds-ssas-first
bounds-ssas-first g c = within c.args.dbd.now.types c.args.ssas.now c.requires.arguments c.requires.some c.first_inserted-first.result c.first_inserted-first.ensures.value

pub parent_for-requires-clause-typed : goal.parent_for-requires-clause-typed
parent_for-requires-clause-typed g c =
    code_typed c.args.dbd.now.types c.args.ssas.now c.requires.arguments c.requires.some c.first_inserted-first.result c.first_inserted-first.ensures.value
    c.index-ssas-first.result c.index-ssas-first.result c.index-ssas-first.is c.code-code.result c.code-code.ensures

pub parent_for-requires-clause-descend : goal.parent_for-requires-clause-descend
parent_for-requires-clause-descend g c = front_descends c.args.dbd.now.types c.args.ssas.now c.first_inserted-first.result c.requires.arguments

pub parent_for-requires-clause-target : goal.parent_for-requires-clause-target
parent_for-requires-clause-target g c =
    target c.args.dbd.now.types c.args.ssas.now c.requires.arguments c.requires.some c.first_inserted-first.result c.first_inserted-first.ensures.value
    c.index-ssas-first.result c.index-ssas-first.result c.index-ssas-first.is c.code-code.result c.code-code.ensures

pub parent_for-requires-clause-there : goal.parent_for-requires-clause-there
parent_for-requires-clause-there g c sound =
    let T = c.requires.state sound in (
      T.1.placed,
      position_at T.0 c.args.number,
      own_position c.args.dbd.now c.args.volume.now c.args.positions.now T.0 c.args.number T.1 c.requires.number.0 c.requires.number.1 sound c.index-positions-number.result,
    )

pub returns-in_default-parent-clause-done : goal.returns-in_default-parent-clause-done
returns-in_default-parent-clause-done g c =
    let d = c.args.dbd.now in
    let v = c.args.volume.now in
    let mid = c.parent_for.new.volume in
    let ssas : List Ssa = c.args.ssas.now in
    let area : List ℕ = c.args.area.now in
    let old : List Kept = c.args.positions.now in
    let n : ℕ = c.first_inserted-first.result in
    let k : Kept = c.index-positions-number.result in
    let C : IsCut d old c.args.number ssas area n c.code-code.result = cut_at d old c.args.number ssas area n c.code-code.result c.requires.arguments c.requires.some c.first_inserted-first.ensures.value
    c.requires.number.0 c.requires.number.1 c.index-ssas-first.result c.index-ssas-first.result c.index-ssas-first.is c.code-code.ensures
    (faultless (parts_in d.types (codes_of (take (length ssas - n) (drop n ssas))) area) (sym c.area_fault.ensures ∙ c.in_default.is)) in
    subst (λ (kept : List Kept). IsInsertDone d v old c.args.number ssas area (Missing GE) mid kept) (sym c.end_hold.ensures)
    (answered_none d v mid _ _ c.in_ok-parent.ensures.read old c.args.number ssas area n c.code-code.result C k
    (subst (λ (o : Option (List ℕ)). IsParentAsked d v (take n ssas) c.code-code.result (slice_index_or old (c.args.number - 1) k) o) c.in_default-parent.is c.in_ok-parent.ensures.value))

pub bounds-ssas-first-2 : goal.bounds-ssas-first-2
bounds-ssas-first-2 g c = within c.args.dbd.now.types c.args.ssas.now c.requires.arguments c.requires.some c.first_inserted-first.result c.first_inserted-first.ensures.value

pub insert_under-requires-clause-some : goal.insert_under-requires-clause-some
insert_under-requires-clause-some g c = some_left c.args.dbd.now.types c.args.ssas.now c.requires.arguments c.requires.some c.first_inserted-first.result c.first_inserted-first.ensures.value

pub insert_under-requires-clause-few : goal.insert_under-requires-clause-few
insert_under-requires-clause-few g c = few_left c.args.dbd.now.types c.args.ssas.now c.requires.arguments c.requires.some c.first_inserted-first.result c.first_inserted-first.ensures.value

pub insert_under-requires-clause-down : goal.insert_under-requires-clause-down
insert_under-requires-clause-down g c =
    steps_left c.args.dbd.now.types c.args.ssas.now c.requires.arguments c.requires.some c.first_inserted-first.result c.first_inserted-first.ensures.value
    c.index-ssas-first.result c.index-ssas-first.result c.index-ssas-first.is c.code-code.result c.code-code.ensures c.args.dbd.now.block_size c.args.dbd.now.frspc c.rule_asked-rule.ensures.fit

pub insert_under-requires-clause-parent : goal.insert_under-requires-clause-parent
insert_under-requires-clause-parent g c =
    let d = c.args.dbd.now in
    let v = c.args.volume.now in
    let mid = c.parent_for.new.volume in
    let ssas : List Ssa = c.args.ssas.now in
    let area : List ℕ = c.args.area.now in
    let old : List Kept = c.args.positions.now in
    let n : ℕ = c.first_inserted-first.result in
    let k : Kept = c.index-positions-number.result in
    let C : IsCut d old c.args.number ssas area n c.code-code.result = cut_at d old c.args.number ssas area n c.code-code.result c.requires.arguments c.requires.some c.first_inserted-first.ensures.value
    c.requires.number.0 c.requires.number.1 c.index-ssas-first.result c.index-ssas-first.result c.index-ssas-first.is c.code-code.ensures
    (faultless (parts_in d.types (codes_of (take (length ssas - n) (drop n ssas))) area) (sym c.area_fault.ensures ∙ c.in_default.is)) in
    has_parent d v mid _ _ c.in_ok-parent.ensures.read old c.args.number ssas area n c.code-code.result C k c.in-Some-parent.parent
    (subst (λ (o : Option (List ℕ)). IsParentAsked d v (take n ssas) c.code-code.result (slice_index_or old (c.args.number - 1) k) o) c.in-Some-parent.is c.in_ok-parent.ensures.value)
    (first_code (take (length ssas - n) (drop n ssas)))
    (first_is d.types ssas c.requires.arguments c.requires.some n c.first_inserted-first.ensures.value c.index-ssas-first.result c.index-ssas-first.result c.index-ssas-first.is c.code-code.result c.code-code.ensures)
    c.requires.state

pub returns-clause-done : goal.returns-clause-done
returns-clause-done g c =
    let d = c.args.dbd.now in
    let v = c.args.volume.now in
    let mid = c.parent_for.new.volume in
    let ssas : List Ssa = c.args.ssas.now in
    let area : List ℕ = c.args.area.now in
    let old : List Kept = c.args.positions.now in
    let n : ℕ = c.first_inserted-first.result in
    let k : Kept = c.index-positions-number.result in
    let C : IsCut d old c.args.number ssas area n c.code-code.result = cut_at d old c.args.number ssas area n c.code-code.result c.requires.arguments c.requires.some c.first_inserted-first.ensures.value
    c.requires.number.0 c.requires.number.1 c.index-ssas-first.result c.index-ssas-first.result c.index-ssas-first.is c.code-code.ensures
    (faultless (parts_in d.types (codes_of (take (length ssas - n) (drop n ssas))) area) (sym c.area_fault.ensures ∙ c.in_default.is)) in
    if-ok c.insert_under.result c.insert_under.ensures.done (λ o done.
    done_below d v mid _ _ c.in_ok-parent.ensures.read old c.args.number ssas area n c.code-code.result C k c.in-Some-parent.parent
    (subst (λ (o : Option (List ℕ)). IsParentAsked d v (take n ssas) c.code-code.result (slice_index_or old (c.args.number - 1) k) o) c.in-Some-parent.is c.in_ok-parent.ensures.value)
    (first_code (take (length ssas - n) (drop n ssas)))
    (first_is d.types ssas c.requires.arguments c.requires.some n c.first_inserted-first.ensures.value c.index-ssas-first.result c.index-ssas-first.result c.index-ssas-first.is c.code-code.result c.code-code.ensures)
    (rows_in d.types (codes_of (take (length ssas - n) (drop n ssas))) area)
    (ap (λ (cs : List ℕ). rows_in d.types cs area) (codes_left d.types ssas c.requires.arguments c.requires.some n c.first_inserted-first.ensures.value))
    c.index-ssas-first-2.result
    (there d.types ssas c.requires.arguments c.requires.some n c.first_inserted-first.ensures.value c.index-ssas-first-2.result c.index-ssas-first-2.result c.index-ssas-first-2.is)
    c.rule_asked-rule.result
    (c.rule_asked-rule.ensures.value
    ∙ ap (λ (x : ℕ). rule_under c.index-ssas-first-2.result.commands (rule_of d.types x))
    (one_code d.types ssas c.requires.arguments c.requires.some n c.first_inserted-first.ensures.value c.index-ssas-first-2.result c.index-ssas-first-2.result c.index-ssas-first-2.is
    c.index-ssas-first.result c.index-ssas-first.result c.index-ssas-first.is
    ∙ sym c.code-code.ensures))
    o c.insert_under.new.volume c.insert_under.new.positions done)

pub returns-clause-full : goal.returns-clause-full
returns-clause-full g c =
    let d = c.args.dbd.now in
    let v = c.args.volume.now in
    let mid = c.parent_for.new.volume in
    let ssas : List Ssa = c.args.ssas.now in
    let area : List ℕ = c.args.area.now in
    let old : List Kept = c.args.positions.now in
    let n : ℕ = c.first_inserted-first.result in
    let k : Kept = c.index-positions-number.result in
    let C : IsCut d old c.args.number ssas area n c.code-code.result = cut_at d old c.args.number ssas area n c.code-code.result c.requires.arguments c.requires.some c.first_inserted-first.ensures.value
    c.requires.number.0 c.requires.number.1 c.index-ssas-first.result c.index-ssas-first.result c.index-ssas-first.is c.code-code.ensures
    (faultless (parts_in d.types (codes_of (take (length ssas - n) (drop n ssas))) area) (sym c.area_fault.ensures ∙ c.in_default.is)) in
    if-err-map c.insert_under.result (λ e full.
    full_below d v mid _ _ c.in_ok-parent.ensures.read old c.args.number ssas area n c.code-code.result C k c.in-Some-parent.parent
    (subst (λ (o : Option (List ℕ)). IsParentAsked d v (take n ssas) c.code-code.result (slice_index_or old (c.args.number - 1) k) o) c.in-Some-parent.is c.in_ok-parent.ensures.value)
    (first_code (take (length ssas - n) (drop n ssas)))
    (first_is d.types ssas c.requires.arguments c.requires.some n c.first_inserted-first.ensures.value c.index-ssas-first.result c.index-ssas-first.result c.index-ssas-first.is c.code-code.result c.code-code.ensures)
    (rows_in d.types (codes_of (take (length ssas - n) (drop n ssas))) area)
    (ap (λ (cs : List ℕ). rows_in d.types cs area) (codes_left d.types ssas c.requires.arguments c.requires.some n c.first_inserted-first.ensures.value))
    c.index-ssas-first-2.result
    (there d.types ssas c.requires.arguments c.requires.some n c.first_inserted-first.ensures.value c.index-ssas-first-2.result c.index-ssas-first-2.result c.index-ssas-first-2.is)
    c.rule_asked-rule.result
    (c.rule_asked-rule.ensures.value
    ∙ ap (λ (x : ℕ). rule_under c.index-ssas-first-2.result.commands (rule_of d.types x))
    (one_code d.types ssas c.requires.arguments c.requires.some n c.first_inserted-first.ensures.value c.index-ssas-first-2.result c.index-ssas-first-2.result c.index-ssas-first-2.is
    c.index-ssas-first.result c.index-ssas-first.result c.index-ssas-first.is
    ∙ sym c.code-code.ensures))
    e full) c.insert_under.ensures.full
