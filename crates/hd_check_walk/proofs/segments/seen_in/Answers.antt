use Rattle.std.proofs.Common.{arith}
use Rattle.hd_check_walk.proofs.Begun.{some-more, whole-seen}
use Rattle.hd_check_walk.proofs.SegmentFacts.{twins-least}
use Rattle.hd_check_walk.proofs.segments.seen_in.Goals as goal

pub seen_with-requires-clause-twins : goal.seen_with-requires-clause-twins
seen_with-requires-clause-twins c = (let least = twins-least c.args.dbd.now.types c.args.code in let is = c.requires.form.twins in let long = c.if-form.false in (omega arith, omega arith))

pub returns-clause-delete_byte : goal.returns-clause-delete_byte
returns-clause-delete_byte c = λ a v of lent coded.
    some-more _ _ c.seen_with.result (λ s seen. seen.delete_byte)
    (whole-seen c.args.dbd.now v a c.args.code c.args.segment.now c.key_at.result.now c.seen_with.result of lent coded c.key_at.ensures
    (λ b n key. c.seen_with.ensures c.args.dbd.now c.args.code b n c.requires.form key))

pub returns-clause-forward : goal.returns-clause-forward
returns-clause-forward c = λ a v of lent coded.
    some-more _ _ c.seen_with.result (λ s seen. seen.forward)
    (whole-seen c.args.dbd.now v a c.args.code c.args.segment.now c.key_at.result.now c.seen_with.result of lent coded c.key_at.ensures
    (λ b n key. c.seen_with.ensures c.args.dbd.now c.args.code b n c.requires.form key))

pub returns-clause-backward : goal.returns-clause-backward
returns-clause-backward c = λ a v of lent coded.
    some-more _ _ c.seen_with.result (λ s seen. seen.backward)
    (whole-seen c.args.dbd.now v a c.args.code c.args.segment.now c.key_at.result.now c.seen_with.result of lent coded c.key_at.ensures
    (λ b n key. c.seen_with.ensures c.args.dbd.now c.args.code b n c.requires.form key))

pub returns-clause-front : goal.returns-clause-front
returns-clause-front c = λ a v of lent coded.
    some-more _ _ c.seen_with.result (λ s seen. seen.front)
    (whole-seen c.args.dbd.now v a c.args.code c.args.segment.now c.key_at.result.now c.seen_with.result of lent coded c.key_at.ensures
    (λ b n key. c.seen_with.ensures c.args.dbd.now c.args.code b n c.requires.form key))

pub returns-clause-childless : goal.returns-clause-childless
returns-clause-childless c = λ a v of lent coded.
    some-more _ _ c.seen_with.result (λ s seen. seen.childless)
    (whole-seen c.args.dbd.now v a c.args.code c.args.segment.now c.key_at.result.now c.seen_with.result of lent coded c.key_at.ensures
    (λ b n key. c.seen_with.ensures c.args.dbd.now c.args.code b n c.requires.form key))
