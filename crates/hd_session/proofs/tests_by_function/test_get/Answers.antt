use Rattle.std.proofs.Common.{◌≡◌, sym, subst}
use Rattle.hd_dbd.specs.Views.{Setting}
use Rattle.hd_volume.proofs.JoinLemmas.{if-ok-map}
use Rattle.hd_links.specs.Steps.{rows_of}
use Rattle.hd_calls.specs.declared.call.Function.TheVariants.{Get}
use Rattle.hd_calls.specs.declared.call.GetKind.{GetKind}
use Rattle.hd_calls.specs.declared.call.GetKind.TheVariants.{Unique, Next}
use Rattle.hd_calls.specs.Steps.{last_tests}
use Rattle.hd_session.specs.Tests.{tested}
use Rattle.hd_session.proofs.tests_by_function.test_get.Goals as goal

pub returns-in-Unique-clause-value : goal.returns-in-Unique-clause-value
returns-in-Unique-clause-value g c = λ hold f q at.
    let s : Setting = record { types = c.args.dbd.now.types; pcb = c.args.pcb.now } in
    subst (λ (k : GetKind). last_tests s (rows_of f) q (Get k hold) c.args.ssas.now ≡ tested (Get k hold) c.args.ssas.now c.get_test.result) (sym c.in-Unique.is)
    (c.get_test.ensures (rows_of f) q Unique hold (λ e. cc))

pub returns-in-Next-clause-value : goal.returns-in-Next-clause-value
returns-in-Next-clause-value g c = λ hold f q at.
    let s : Setting = record { types = c.args.dbd.now.types; pcb = c.args.pcb.now } in
    subst (λ (k : GetKind). last_tests s (rows_of f) q (Get k hold) c.args.ssas.now ≡ tested (Get k hold) c.args.ssas.now c.get_test-in-Next.result) (sym c.in-Next.is)
    (c.get_test-in-Next.ensures (rows_of f) q Next hold (λ e. cc))

pub returns-in-NextInParent-clause-value : goal.returns-in-NextInParent-clause-value
returns-in-NextInParent-clause-value g c = if-ok-map c.test_get_in_parent.result (λ o value hold f q at.
    let s : Setting = record { types = c.args.dbd.now.types; pcb = c.args.pcb.now } in
    subst (λ (k : GetKind). last_tests s (rows_of f) q (Get k hold) c.args.ssas.now ≡ tested (Get k hold) c.args.ssas.now o) (sym c.in-NextInParent.is) (value hold f q at)) c.test_get_in_parent.ensures.value
