use Rattle.std.proofs.Common.{sym}
use Rattle.hd_check_pointers.proofs.NamedLemmas.{nowhere-wrong, another-wrong, right-wrong}
use Rattle.hd_check_pointers.proofs.record_pointers.wrong_of.Goals as goal

pub returns-in-None : goal.returns-in-None
returns-in-None c = λ d v h. sym (nowhere-wrong d.types v c.args.places.now h c.args.address c.args.code c.if-address-eq0.false (c.in-None.ensures.none h.ascend))

pub returns-then-own-code : goal.returns-then-own-code
returns-then-own-code c = λ d v h. sym (right-wrong d.types v c.args.places.now h c.args.address c.args.code c.in-Some.own c.if-address-eq0.false c.in-Some.ensures.some c.if-own-code.true)

pub returns-else-own-code : goal.returns-else-own-code
returns-else-own-code c = λ d v h. sym (another-wrong d.types v c.args.places.now h c.args.address c.args.code c.in-Some.own c.if-address-eq0.false c.in-Some.ensures.some c.if-own-code.false)
