use Rattle.hd_check_pointers.proofs.TwinPointers.{twin-is, none-is}
use Rattle.hd_check_pointers.proofs.twins.twin_before.Goals as goal

pub returns-then-stands_at : goal.returns-then-stands_at
returns-then-stands_at c = λ d v M prec. twin-is d v c.args.places.now M c.args.number c.args.holder c.requires.within prec (c.stands_at.ensures.right c.if-stands_at.true)

pub returns : goal.returns
returns c = λ d v M prec. none-is d v c.args.places.now M c.args.number c.args.holder c.requires.within prec (c.stands_at.ensures.wrong M.stand.ascend c.if-stands_at.false)
