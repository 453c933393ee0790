use Rattle.std.proofs.Common.{true, refl, sym, ◌∙◌}
use Rattle.hd_calls.specs.declared.call.Function.TheVariants.{Get}
use Rattle.hd_dbd.specs.Views.{Setting}
use Rattle.hd_session.proofs.Order.{not_allowed, allowed, looks_anywhere}
use Rattle.hd_session.proofs.tests_by_function.get_test.Goals as goal

pub returns-then-not-get_allowed : goal.returns-then-not-get_allowed
returns-then-not-get_allowed c = λ rows q kind hold other.
    let s : Setting = record { types = c.args.dbd.now.types; pcb = c.args.pcb.now } in
    not_allowed s rows q (Get kind hold) c.args.ssas.now (sym (c.get_allowed.ensures rows q.held kind hold) ∙ c.if-not-get_allowed.true)

pub returns : goal.returns
returns c = λ rows q kind hold other.
    let s : Setting = record { types = c.args.dbd.now.types; pcb = c.args.pcb.now } in
    allowed s rows q (Get kind hold) c.args.ssas.now true true true (sym (c.get_allowed.ensures rows q.held kind hold) ∙ c.if-not-get_allowed.false)
    refl refl (looks_anywhere s.types rows q.parent kind hold c.args.ssas.now other)
