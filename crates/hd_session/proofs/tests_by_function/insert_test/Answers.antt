use Rattle.std.proofs.Common.{true, false, refl, ap, sym, ◌∙◌}
use Rattle.std.specs.Prelude.{not}
use Rattle.hd_calls.specs.declared.call.Function.TheVariants.{Insert}
use Rattle.hd_dbd.specs.Views.{Setting}
use Rattle.hd_session.proofs.Order.{not_allowed, allowed}
use Rattle.hd_session.proofs.tests_by_function.insert_test.Goals as goal

pub returns-then-not-insert_allowed : goal.returns-then-not-insert_allowed
returns-then-not-insert_allowed c = λ rows q.
    let s : Setting = record { types = c.args.dbd.now.types; pcb = c.args.pcb.now } in
    not_allowed s rows q Insert c.args.ssas.now (sym (c.insert_allowed.ensures rows q.held) ∙ c.if-not-insert_allowed.true)

pub returns-then-is_empty : goal.returns-then-is_empty
returns-then-is_empty c = λ rows q.
    let s : Setting = record { types = c.args.dbd.now.types; pcb = c.args.pcb.now } in
    allowed s rows q Insert c.args.ssas.now false true true (sym (c.insert_allowed.ensures rows q.held) ∙ c.if-not-insert_allowed.false)
    (ap not (sym c.is_empty.ensures ∙ c.if-is_empty.true)) refl refl

pub returns : goal.returns
returns c = λ rows q.
    let s : Setting = record { types = c.args.dbd.now.types; pcb = c.args.pcb.now } in
    allowed s rows q Insert c.args.ssas.now true true true (sym (c.insert_allowed.ensures rows q.held) ∙ c.if-not-insert_allowed.false)
    (ap not (sym c.is_empty.ensures ∙ c.if-is_empty.false)) refl refl
