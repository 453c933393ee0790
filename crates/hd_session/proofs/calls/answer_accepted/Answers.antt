use Rattle.std.proofs.Common.{◌≡◌, ℕ, refl, sym, ap, ◌∙◌, subst}
use Rattle.hd_dbd.specs.Calls.{CallText}
use Rattle.hd_dbd.specs.declared.answer.Refused.{Refused}
use Rattle.hd_dbd.specs.declared.answer.Refused.TheVariants.{Device, Memory}
use Rattle.hd_volume.proofs.CallSteps.{if-ok}
use Rattle.hd_volume.proofs.JoinLemmas.{if-err-map}
use Rattle.hd_calls.specs.declared.call.Function.TheVariants.{Get, Insert, Replace, Delete}
use Rattle.hd_calls.specs.Steps.{AcceptedCall, Effect}
use Rattle.hd_calls.proofs.Admitting.{resolved_descend}
use Rattle.hd_update.specs.States.{LacksRoomFor, StoresSome}
use Rattle.hd_session.specs.Sessions.{own_in}
use Rattle.hd_session.proofs.KeysKnown.{nothing_known, if_ok_any}
use Rattle.hd_session.proofs.OwnSteps.{step_as}
use Rattle.hd_session.proofs.TestedCalls.{own_is}
use Rattle.hd_session.proofs.calls.answer_accepted.Goals as goal

pub answer_get-requires-clause-descend : goal.answer_get-requires-clause-descend
answer_get-requires-clause-descend g c =
    let d = c.args.dbd.now in
    rw (ap (λ (x : AcceptedCall). x.ssas) c.accepted.view_is)
    (resolved_descend (record { types = d.types; pcb = c.args.pcb.now }) c.args.accepted.now.function c.args.call.now.ssas c.args.accepted.now.ssas c.requires.resolved)

pub returns-in-Get-clause-done : goal.returns-in-Get-clause-done
returns-in-Get-clause-done g c = if-ok c.answer_get.result c.answer_get.ensures.done (λ a done st sound R.
    let d = c.args.dbd.now in
    let n : ℕ = c.args.number in
    step_as d c.args.volume.now st n _ (own_in d c.args.pcb.now n c.args.call.now.area c.args.accepted.now st) c.answer_get.new.volume c.answer_get.new.positions
    (own_is d c.args.pcb.now n st c.args.call.now.area c.args.call.now.area (Get c.in-Get.kind c.in-Get.hold) c.accepted.inside.function c.accepted.inside.ssas.now c.accepted.inside.ssas.now c.args.accepted.now
    refl refl c.in-Get.is c.accepted.view_is) (done st sound R))

-- ---- ISRT

pub returns-in-Insert-clause-done : goal.returns-in-Insert-clause-done
returns-in-Insert-clause-done g c = if-ok c.answer_insert.result c.answer_insert.ensures.done (λ a done st sound R.
    let d = c.args.dbd.now in
    let n : ℕ = c.args.number in
    step_as d c.args.volume.now st n _ (own_in d c.args.pcb.now n c.args.call.now.area c.args.accepted.now st) c.answer_insert.new.volume c.answer_insert.new.positions
    (own_is d c.args.pcb.now n st c.deref.result.now c.args.call.now.area Insert c.accepted.inside.function c.accepted.inside.ssas.now c.accepted.inside.ssas.now c.args.accepted.now
    (c.deref.ensures.value ∙ ap (λ (x : CallText). x.area) c.call.view_is) refl c.in-Insert.is c.accepted.view_is) (done st sound R))

pub returns-in-Insert-clause-area : goal.returns-in-Insert-clause-area
returns-in-Insert-clause-area g c = if-err-map c.answer_insert.result (λ e area st is sound R.
    let d = c.args.dbd.now in
    let n : ℕ = c.args.number in
    sym (own_is d c.args.pcb.now n st c.deref.result.now c.args.call.now.area Insert c.accepted.inside.function c.accepted.inside.ssas.now c.accepted.inside.ssas.now c.args.accepted.now
    (c.deref.ensures.value ∙ ap (λ (x : CallText). x.area) c.call.view_is) refl c.in-Insert.is c.accepted.view_is) ∙ area st is sound R) c.answer_insert.ensures.area

pub returns-in-Insert-clause-full : goal.returns-in-Insert-clause-full
returns-in-Insert-clause-full g c = if-err-map c.answer_insert.result (λ e full st is sound R.
    let d = c.args.dbd.now in
    let n : ℕ = c.args.number in
    subst (λ (x : Effect). LacksRoomFor d c.args.volume.now st.rows x)
    (own_is d c.args.pcb.now n st c.deref.result.now c.args.call.now.area Insert c.accepted.inside.function c.accepted.inside.ssas.now c.accepted.inside.ssas.now c.args.accepted.now
    (c.deref.ensures.value ∙ ap (λ (x : CallText). x.area) c.call.view_is) refl c.in-Insert.is c.accepted.view_is) (full st is sound R)) c.answer_insert.ensures.full

-- ---- REPL and DLET

pub returns-in-Replace-clause-done : goal.returns-in-Replace-clause-done
returns-in-Replace-clause-done g c = if-ok c.answer_repl.result c.answer_repl.ensures.done (λ a done st sound R.
    let d = c.args.dbd.now in
    let n : ℕ = c.args.number in
    step_as d c.args.volume.now st n _ (own_in d c.args.pcb.now n c.args.call.now.area c.args.accepted.now st) c.answer_repl.new.volume c.answer_repl.new.positions
    (own_is d c.args.pcb.now n st c.deref-in-Replace.result.now c.args.call.now.area Replace c.accepted.inside.function c.accepted.inside.ssas.now c.accepted.inside.ssas.now c.args.accepted.now
    (c.deref-in-Replace.ensures.value ∙ ap (λ (x : CallText). x.area) c.call.view_is) refl c.in-Replace.is c.accepted.view_is) (done c.args.pcb.now st sound R))

pub returns-in-Replace-clause-area : goal.returns-in-Replace-clause-area
returns-in-Replace-clause-area g c = if-err-map c.answer_repl.result (λ e area st is sound R.
    let d = c.args.dbd.now in
    let n : ℕ = c.args.number in
    sym (own_is d c.args.pcb.now n st c.deref-in-Replace.result.now c.args.call.now.area Replace c.accepted.inside.function c.accepted.inside.ssas.now c.accepted.inside.ssas.now c.args.accepted.now
    (c.deref-in-Replace.ensures.value ∙ ap (λ (x : CallText). x.area) c.call.view_is) refl c.in-Replace.is c.accepted.view_is) ∙ area c.args.pcb.now st is sound R) c.answer_repl.ensures.area

pub returns-in-Replace-clause-full : goal.returns-in-Replace-clause-full
returns-in-Replace-clause-full g c = if-err-map c.answer_repl.result (λ e full st is sound R.
    let d = c.args.dbd.now in
    let n : ℕ = c.args.number in
    subst (λ (x : Effect). LacksRoomFor d c.args.volume.now st.rows x)
    (own_is d c.args.pcb.now n st c.deref-in-Replace.result.now c.args.call.now.area Replace c.accepted.inside.function c.accepted.inside.ssas.now c.accepted.inside.ssas.now c.args.accepted.now
    (c.deref-in-Replace.ensures.value ∙ ap (λ (x : CallText). x.area) c.call.view_is) refl c.in-Replace.is c.accepted.view_is) (full c.args.pcb.now st is sound R)) c.answer_repl.ensures.full

pub returns-in-Replace-clause-memory : goal.returns-in-Replace-clause-memory
returns-in-Replace-clause-memory g c other = if-err-map c.answer_repl.result (λ e memory st is sound R.
    let d = c.args.dbd.now in
    let n : ℕ = c.args.number in
    subst (λ (x : Effect). StoresSome st.rows x)
    (own_is d c.args.pcb.now n st c.deref-in-Replace.result.now c.args.call.now.area Replace c.accepted.inside.function c.accepted.inside.ssas.now c.accepted.inside.ssas.now c.args.accepted.now
    (c.deref-in-Replace.ensures.value ∙ ap (λ (x : CallText). x.area) c.call.view_is) refl c.in-Replace.is c.accepted.view_is) (memory is c.args.pcb.now st sound R)) c.answer_repl.ensures.memory

pub returns-in-Delete-clause-done : goal.returns-in-Delete-clause-done
returns-in-Delete-clause-done g c = if-ok c.answer_dlet.result c.answer_dlet.ensures.done (λ a done st sound R.
    let d = c.args.dbd.now in
    let n : ℕ = c.args.number in
    step_as d c.args.volume.now st n _ (own_in d c.args.pcb.now n c.args.call.now.area c.args.accepted.now st) c.answer_dlet.new.volume c.answer_dlet.new.positions
    (own_is d c.args.pcb.now n st c.args.call.now.area c.args.call.now.area Delete c.accepted.inside.function c.accepted.inside.ssas.now c.accepted.inside.ssas.now c.args.accepted.now
    refl refl c.in-Delete.is c.accepted.view_is) (done c.args.pcb.now st sound R))

-- ---- memory, of which a get and a DLET take none

no_memory : (e : Refused) → e ≡ Device → e ≡ Memory → ⊥
no_memory e device memory = (let both : Device ≡ Memory = sym device ∙ memory in cc)

pub returns-in-Get-clause-memory : goal.returns-in-Get-clause-memory
returns-in-Get-clause-memory g c other = if-err-map c.answer_get.result (λ e device st is sound R. absurd (no_memory e device is)) c.answer_get.ensures.refusal

pub returns-in-Delete-clause-memory : goal.returns-in-Delete-clause-memory
returns-in-Delete-clause-memory g c other = if-err-map c.answer_dlet.result (λ e device st is sound R. absurd (no_memory e device is)) c.answer_dlet.ensures.refusal

-- ---- what is known behind an update

pub returns-in-Insert-clause-known : goal.returns-in-Insert-clause-known
returns-in-Insert-clause-known g c = if_ok_any c.answer_insert.result (λ a. nothing_known c.args.dbd.now c.answer_insert.new.volume c.forget.new.self c.forget.ensures)

pub returns-in-Replace-clause-known : goal.returns-in-Replace-clause-known
returns-in-Replace-clause-known g c = if_ok_any c.answer_repl.result (λ a. nothing_known c.args.dbd.now c.answer_repl.new.volume c.forget-in-Replace.new.self c.forget-in-Replace.ensures)

pub returns-in-Delete-clause-known : goal.returns-in-Delete-clause-known
returns-in-Delete-clause-known g c = if_ok_any c.answer_dlet.result (λ a. nothing_known c.args.dbd.now c.answer_dlet.new.volume c.forget-in-Delete.new.self c.forget-in-Delete.ensures)
