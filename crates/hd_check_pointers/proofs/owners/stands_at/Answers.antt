use Rattle.hd_check_pointers.proofs.PlaceNumbers.{is-at, isnt-at}
use Rattle.hd_check_pointers.proofs.owners.stands_at.Goals as goal

pub returns-in-None-clause-wrong : goal.returns-in-None-clause-wrong
returns-in-None-clause-wrong c = λ ascend no_matter is. c.in-None.ensures.none ascend c.args.code is

pub returns-in-Some-clause-right : goal.returns-in-Some-clause-right
returns-in-Some-clause-right c = λ same. (let n = c.in-Some.ensures.some in is-at c.args.places.now c.in-Some.found c.args.address c.args.code n.0 n.1 same)

pub returns-in-Some-clause-wrong : goal.returns-in-Some-clause-wrong
returns-in-Some-clause-wrong c = λ ascend other is. (let n = c.in-Some.ensures.some in isnt-at c.args.places.now c.in-Some.found c.args.address c.args.code ascend n.0 n.1 other is)
