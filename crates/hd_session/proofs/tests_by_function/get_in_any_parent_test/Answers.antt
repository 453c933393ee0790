use Rattle.std.proofs.Common.{[], true, false, refl, sym, ◌∙◌}
use Rattle.hd_dbd.specs.Views.{Setting}
use Rattle.hd_calls.specs.declared.call.Function.TheVariants.{Get}
use Rattle.hd_calls.specs.declared.call.GetKind.TheVariants.{NextInParent}
use Rattle.hd_session.proofs.Order.{not_allowed, allowed, any_parent}
use Rattle.hd_session.proofs.tests_by_function.get_in_any_parent_test.Goals as goal

pub returns-then-not-get_allowed : goal.returns-then-not-get_allowed
returns-then-not-get_allowed c = λ rows q hold is.
    let s : Setting = record { types = c.args.dbd.now.types; pcb = c.args.pcb.now } in
    not_allowed s rows q (Get NextInParent hold) [] (sym (c.get_allowed.ensures rows q.held NextInParent hold) ∙ c.if-not-get_allowed.true)

pub returns-then-not-has_parent : goal.returns-then-not-has_parent
returns-then-not-has_parent c = λ rows q hold is.
    let s : Setting = record { types = c.args.dbd.now.types; pcb = c.args.pcb.now } in
    allowed s rows q (Get NextInParent hold) [] true true false (sym (c.get_allowed.ensures rows q.held NextInParent hold) ∙ c.if-not-get_allowed.false)
    refl refl (any_parent s.types rows q.parent ∙ sym is ∙ c.if-not-has_parent.true)

pub returns : goal.returns
returns c = λ rows q hold is.
    let s : Setting = record { types = c.args.dbd.now.types; pcb = c.args.pcb.now } in
    allowed s rows q (Get NextInParent hold) [] true true true (sym (c.get_allowed.ensures rows q.held NextInParent hold) ∙ c.if-not-get_allowed.false)
    refl refl (any_parent s.types rows q.parent ∙ sym is ∙ c.if-not-has_parent.false)
