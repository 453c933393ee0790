use Rattle.std.proofs.Common.{Bool, true, false, refl, ap, sym, ◌∙◌}
use Rattle.std.specs.Prelude.{not}
use Rattle.hd_calls.specs.declared.call.Function.TheVariants.{Delete}
use Rattle.hd_dbd.specs.Views.{Setting}
use Rattle.hd_session.proofs.Held.{taken}
use Rattle.hd_session.proofs.Order.{not_allowed, allowed}
use Rattle.hd_session.proofs.tests_by_function.delete_test.Goals as goal

pub returns-then-not-delete_allowed : goal.returns-then-not-delete_allowed
returns-then-not-delete_allowed c = λ rows q of.
    let s : Setting = record { types = c.args.dbd.now.types; pcb = c.args.pcb.now } in
    not_allowed s rows q Delete c.args.ssas.now (sym (c.delete_allowed.ensures rows q.held of) ∙ c.if-not-delete_allowed.true)

pub returns-then-is_none : goal.returns-then-is_none
returns-then-is_none c = λ rows q of.
    let s : Setting = record { types = c.args.dbd.now.types; pcb = c.args.pcb.now } in
    allowed s rows q Delete c.args.ssas.now true false true (sym (c.delete_allowed.ensures rows q.held of) ∙ c.if-not-delete_allowed.false)
    refl (taken c.args.ssas.now rows q.held c.deleted_code.result (c.deleted_code.ensures rows q.held of) ∙ ap (λ (b : Bool). not (not b)) (c.is_none.ensures ∙ ap not c.if-is_none.true)) refl

pub returns : goal.returns
returns c = λ rows q of.
    let s : Setting = record { types = c.args.dbd.now.types; pcb = c.args.pcb.now } in
    allowed s rows q Delete c.args.ssas.now true true true (sym (c.delete_allowed.ensures rows q.held of) ∙ c.if-not-delete_allowed.false)
    refl (taken c.args.ssas.now rows q.held c.deleted_code.result (c.deleted_code.ensures rows q.held of) ∙ ap (λ (b : Bool). not (not b)) (c.is_none.ensures ∙ ap not c.if-is_none.false)) refl
