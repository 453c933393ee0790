use Rattle.std.proofs.Common.{◌≡◌, ℕ, List, [], length, nat_lt, sym, ap, subst, ◌∙◌}
use Rattle.hd_dbd.specs.Views.{Setting}
use Rattle.hd_links.specs.Steps.{rows_of}
use Rattle.hd_image.specs.Records.{links_of}
use Rattle.hd_calls.specs.declared.call.Function.TheVariants.{Get}
use Rattle.hd_calls.specs.declared.call.GetKind.TheVariants.{NextInParent}
use Rattle.hd_calls.specs.Ssas.{Ssa}
use Rattle.hd_calls.specs.Steps.{last_tests}
use Rattle.std.proofs.lemmas.Bool.{eqb-true}
use Rattle.hd_get.proofs.NextTwins.{none_are}
use Rattle.hd_position.specs.Kept.{Kept}
use Rattle.hd_session.specs.Tests.{tested}
use Rattle.hd_session.proofs.Parents.{parent_kept_is}
use Rattle.hd_session.proofs.tests_by_function.test_get_in_parent.Goals as goal

pub returns-clause-value : goal.returns-clause-value
returns-clause-value g c = λ hold f q at.
    c.get_in_parent_test.ensures (rows_of f) q hold (c.in_ok-parent.ensures.value f q at)

pub returns-then-is_empty-clause-value : goal.returns-then-is_empty-clause-value
returns-then-is_empty-clause-value g c = λ hold f q at.
    let d = c.args.dbd.now in
    let s : Setting = record { types = d.types; pcb = c.args.pcb.now } in
    let k : Kept = c.args.position.now in
    let none : [] ≡ c.args.ssas.now = none_are c.args.ssas.now (eqb-true (length c.args.ssas.now) 0 (sym c.is_empty.ensures ∙ c.if-is_empty.true)) in
    let has = ap (λ (n : ℕ). nat_lt 0 n) c.parent.ensures ∙ parent_kept_is d.types (links_of d.types c.args.volume.now) f k q at.holds.records at.stands in
    subst (λ (ssas : List Ssa). last_tests s (rows_of f) q (Get NextInParent hold) ssas ≡ tested (Get NextInParent hold) ssas c.get_in_any_parent_test.result) none
    (c.get_in_any_parent_test.ensures (rows_of f) q hold has)
