use Rattle.std.proofs.Common.{ℕ, true, false, refl, ap, sym, ◌∙◌}
use Rattle.std.specs.Prelude.{not, ◌==◌}
use Rattle.hd_calls.specs.declared.call.Function.TheVariants.{Replace}
use Rattle.hd_dbd.specs.Views.{Setting}
use Rattle.hd_session.proofs.Held.{as_many_held}
use Rattle.hd_session.proofs.Order.{not_allowed, allowed}
use Rattle.hd_session.proofs.tests_by_function.replace_test.Goals as goal

pub returns-then-not-replace_allowed : goal.returns-then-not-replace_allowed
returns-then-not-replace_allowed c = λ rows q of.
    let s : Setting = record { types = c.args.dbd.now.types; pcb = c.args.pcb.now } in
    not_allowed s rows q Replace c.args.ssas.now (sym (c.replace_allowed.ensures rows q.held of) ∙ c.if-not-replace_allowed.true)

pub returns-then-is_empty : goal.returns-then-is_empty
returns-then-is_empty c = λ rows q of.
    let s : Setting = record { types = c.args.dbd.now.types; pcb = c.args.pcb.now } in
    allowed s rows q Replace c.args.ssas.now true false true (sym (c.replace_allowed.ensures rows q.held of) ∙ c.if-not-replace_allowed.false)
    refl (ap (λ (n : ℕ). not (n == 0)) (as_many_held rows q.held c.args.held.now of) ∙ ap not (sym c.is_empty.ensures ∙ c.if-is_empty.true)) refl

pub returns : goal.returns
returns c = λ rows q of.
    let s : Setting = record { types = c.args.dbd.now.types; pcb = c.args.pcb.now } in
    allowed s rows q Replace c.args.ssas.now true true true (sym (c.replace_allowed.ensures rows q.held of) ∙ c.if-not-replace_allowed.false)
    refl (ap (λ (n : ℕ). not (n == 0)) (as_many_held rows q.held c.args.held.now of) ∙ ap not (sym c.is_empty.ensures ∙ c.if-is_empty.false)) refl
