use Rattle.std.proofs.Common.{sym, ◌∙◌}
use Rattle.std.proofs.lemmas.Bool.{eqb-true}
use Rattle.hd_check_pointers.proofs.PlaceNumbers.{ne-by}
use Rattle.hd_check_pointers.proofs.TwinPointers.{last-nowhere, last-goes-on, last-elsewhere, last-ends}
use Rattle.hd_check_pointers.proofs.twins.is_last_right.Goals as goal

pub returns-in-None-clause-wrong : goal.returns-in-None-clause-wrong
returns-in-None-clause-wrong c = λ d v t M F O has no_is.
    last-nowhere d v c.args.places.now M c.args.owners.now c.args.forwards.now O F c.args.parent t c.args.first c.args.last has c.if-first-eq0.false (c.in-None.ensures.none M.stand.ascend)

pub returns-then-number_in-eq0-clause-right : goal.returns-then-number_in-eq0-clause-right
returns-then-number_in-eq0-clause-right c = λ d v t M F O has same.
    let there = c.in-Some.ensures.some in
    last-ends d v c.args.places.now M c.args.owners.now c.args.forwards.now O F c.args.parent t c.args.first c.args.last has c.in-Some.number there.0 there.1
    c.if-first-eq0.false (sym c.number_in.ensures ∙ c.if-number_in-eq0.true) (sym c.number_in-then-number_in-eq0.ensures ∙ eqb-true _ _ same)

pub returns-then-number_in-eq0-clause-wrong : goal.returns-then-number_in-eq0-clause-wrong
returns-then-number_in-eq0-clause-wrong c = λ d v t M F O has other.
    let there = c.in-Some.ensures.some in
    last-elsewhere d v c.args.places.now M c.args.owners.now c.args.forwards.now O F c.args.parent t c.args.first c.args.last has c.in-Some.number there.0 there.1
    c.if-first-eq0.false (λ z. ne-by _ _ other (c.number_in-then-number_in-eq0.ensures ∙ z))

pub returns-else-number_in-eq0-clause-wrong : goal.returns-else-number_in-eq0-clause-wrong
returns-else-number_in-eq0-clause-wrong c = λ d v t M F O has no_is.
    let there = c.in-Some.ensures.some in
    last-goes-on d v c.args.places.now M c.args.owners.now c.args.forwards.now O F c.args.parent t c.args.first c.args.last has c.in-Some.number there.0 there.1
    c.if-first-eq0.false (λ z. c.if-number_in-eq0.false (c.number_in.ensures ∙ z))
