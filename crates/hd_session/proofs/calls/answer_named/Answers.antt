use Rattle.std.proofs.Common.{◌≡◌, ℕ, List, length, map, Err, sym, ap, ◌∙◌, arith}
use Rattle.std.proofs.lemmas.List.{length-map}
use Rattle.hd_dbd.specs.Views.{Setting}
use Rattle.hd_dbd.specs.Calls.{CallText}
use Rattle.hd_volume.proofs.CallSteps.{read-none}
use Rattle.hd_links.specs.Steps.{rows_of}
use Rattle.hd_calls.specs.Ssas.{resolve}
use Rattle.hd_calls.specs.Steps.{accepted_call, position_at}
use Rattle.hd_position.specs.Kept.{Kept}
use Rattle.hd_session.proofs.Order.{refused_ssas}
use Rattle.hd_session.proofs.TestedCalls.{failed_step}
use Rattle.hd_session.proofs.calls.answer_named.Goals as goal

pub returns-in-Err-Status-clause-done : goal.returns-in-Err-Status-clause-done
returns-in-Err-Status-clause-done g c st sound R =
    let d = c.args.dbd.now in
    let u = c.args.volume.now in
    let old : List Kept = c.args.positions.now in
    let n : ℕ = c.args.number in
    let call : CallText = c.args.call.now in
    let s : Setting = record { types = d.types; pcb = c.args.pcb.now } in
    let texts : map (λ w. w.items) c.as_slice.result.now ≡ call.ssas = ap (map (λ w. w.items)) c.as_slice.ensures.value ∙ ap (λ (x : CallText). x.ssas) c.call.view_is in
    let failed : accepted_call s (rows_of R.placed) (position_at st n) call ≡ Err c.in-Err-Status.status
    = refused_ssas s (rows_of R.placed) (position_at st n) call.function call.area call.ssas c.args.function c.in-Err-Status.status c.requires.named
    (ap (resolve s c.args.function) (sym texts) ∙ c.resolve.ensures.status c.in-Err-Status.status (c.in-Err-Status.is ∙ ap Err c.in-Err-Status.field-0-is)) in
    rw (c.fail.ensures.reply, c.fail.ensures.positions)
    (failed_step d c.args.pcb.now n call u old st R {A = ℕ} u _ (read-none u 0) sound c.requires.number.0 c.requires.number.1 (failed ∙ ap Err (sym c.in-Err-Status.status-is)))

pub returns-in-Err-Memory-clause-memory : goal.returns-in-Err-Memory-clause-memory
returns-in-Err-Memory-clause-memory g c other few =
    let many : length c.as_slice.result.now ≡ length c.args.call.now.ssas
    = ap length c.as_slice.ensures.value ∙ sym (length-map c.call.inside.ssas.items (λ s. s.items)) ∙ ap (λ (x : CallText). length x.ssas) c.call.view_is in
    absurd (c.in-Err-Memory.ensures.memory (omega arith) c.in-Err-Memory.field-0-is)
