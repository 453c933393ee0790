use Rattle.std.proofs.Common.{sym, ◌∙◌, arith}
use Rattle.hd_check_walk.proofs.Begun.{begun-key}
use Rattle.hd_check_walk.proofs.SegmentFacts.{twins-least}
use Rattle.hd_check_walk.proofs.segments.seen_first.Goals as goal

pub seen_with-requires-clause-twins : goal.seen_with-requires-clause-twins
seen_with-requires-clause-twins c = (let least = twins-least c.args.dbd.now.types c.args.code in let is = c.requires.form.twins in let long = c.if-form.false in (omega arith, omega arith))

pub returns : goal.returns
returns c = λ a n v of lent coded there.
    c.seen_with.ensures c.args.dbd.now c.args.code a n c.requires.form
    (begun-key c.args.dbd.now v a n c.args.code c.args.bytes.now c.in_ok-key.key.now c.args.own of there coded lent (sym c.requires.own ∙ c.requires.form.placed) c.in_ok-key.ensures) v of lent coded
