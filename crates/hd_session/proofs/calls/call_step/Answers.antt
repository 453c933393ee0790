use Rattle.std.proofs.Common.{◌≡◌, ℕ, List, [], ◌∷◌, length, map, Err, refl, sym, ap, ◌∙◌, arith}
use Rattle.std.proofs.lemmas.Bool.{eqb-true}
use Rattle.hd_dbd.specs.Views.{Setting}
use Rattle.hd_dbd.specs.Calls.{CallText}
use Rattle.hd_dbd.specs.declared.answer.Status.TheVariants.{AD}
use Rattle.hd_volume.proofs.CallSteps.{read-none}
use Rattle.hd_links.specs.Steps.{rows_of}
use Rattle.hd_calls.specs.Functions.{function_of}
use Rattle.hd_calls.specs.Ssas.{resolve}
use Rattle.hd_calls.specs.Steps.{accepted_call, position_at}
use Rattle.hd_position.specs.Kept.{Kept}
use Rattle.hd_session.proofs.Order.{nameless, none_mean}
use Rattle.hd_session.proofs.TestedCalls.{failed_step}
use Rattle.hd_session.proofs.calls.call_step.Goals as goal

pub returns-in_default-clause-done : goal.returns-in_default-clause-done
returns-in_default-clause-done g c st sound R =
    let d = c.args.dbd.now in
    let u = c.args.volume.now in
    let old : List Kept = c.args.positions.now in
    let n : ℕ = c.args.number in
    let call : CallText = c.args.call.now in
    let s : Setting = record { types = d.types; pcb = c.args.pcb.now } in
    let failed : accepted_call s (rows_of R.placed) (position_at st n) call ≡ Err AD
    = nameless s (rows_of R.placed) (position_at st n) call (sym (ap (λ (x : CallText). function_of x.function) c.call.view_is) ∙ sym c.function_of.ensures ∙ c.in_default.is) in
    rw (c.fail.ensures.reply, c.fail.ensures.positions)
    (failed_step d c.args.pcb.now n call u old st R {A = ℕ} u AD (read-none u 0) sound c.requires.number.0 c.requires.number.1 failed)

-- a list of no elements, in another form
none_of : {A : Type 0} (f : A → List ℕ) (xs : List A) → length xs ≡ 0 → map f xs ≡ []
none_of f [] none = refl
none_of f (x ∷ xs) none = absurd (omega arith)

pub answer_tested-requires-clause-resolved : goal.answer_tested-requires-clause-resolved
answer_tested-requires-clause-resolved g c =
    let s : Setting = record { types = c.args.dbd.now.types; pcb = c.args.pcb.now } in
    let none : length c.call.inside.ssas.items ≡ 0
    = sym (ap length c.as_slice-texts.ensures.value) ∙ eqb-true (length c.as_slice-texts.result.now) 0 (sym c.is_empty.ensures ∙ c.if-not-is_empty.false) in
    ap (resolve s c.in-Some.function) (sym (ap (λ (x : CallText). x.ssas) c.call.view_is) ∙ none_of (λ w. w.items) c.call.inside.ssas.items none)
    ∙ none_mean s c.in-Some.function

pub answer_bare_get-requires-clause-bare : goal.answer_bare_get-requires-clause-bare
answer_bare_get-requires-clause-bare g c =
    let none : length c.call.inside.ssas.items ≡ 0
    = sym (ap length c.as_slice-texts.ensures.value) ∙ eqb-true (length c.as_slice-texts.result.now) 0 (sym c.is_empty.ensures ∙ c.if-not-is_empty.false) in
    sym (ap (λ (x : CallText). x.ssas) c.call.view_is) ∙ none_of (λ w. w.items) c.call.inside.ssas.items none
