use Rattle.std.proofs.Common.{◌≡◌, sym, subst}
use Rattle.hd_dbd.specs.Views.{Setting}
use Rattle.hd_links.specs.Steps.{rows_of}
use Rattle.hd_calls.specs.declared.call.Function.{Function}
use Rattle.hd_calls.specs.Steps.{last_tests}
use Rattle.hd_volume.proofs.CallSteps.{if-ok}
use Rattle.hd_session.specs.Tests.{tested, IsLastTest}
use Rattle.hd_session.proofs.tests_by_function.last_test.Goals as goal

pub returns-in-Insert-clause-value : goal.returns-in-Insert-clause-value
returns-in-Insert-clause-value g c = λ f q at.
    let s : Setting = record { types = c.args.dbd.now.types; pcb = c.args.pcb.now } in
    subst (λ (fn : Function). last_tests s (rows_of f) q fn c.args.ssas.now ≡ tested fn c.args.ssas.now c.insert_test.result) (sym c.in-Insert.is) (c.insert_test.ensures (rows_of f) q)

pub returns-in-Get-clause-value : goal.returns-in-Get-clause-value
returns-in-Get-clause-value g c =
    if-ok c.test_get.result c.test_get.ensures.value
    (λ o told. subst (λ (fn : Function). IsLastTest c.args.dbd.now c.args.volume.now c.args.pcb.now c.args.position.now fn c.args.ssas.now o) (sym c.in-Get.is) (told _))
