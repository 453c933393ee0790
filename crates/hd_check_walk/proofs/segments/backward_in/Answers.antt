use Rattle.std.proofs.Common.{refl, arith}
use Rattle.hd_check_walk.proofs.SegmentFacts.{backward-kept}
use Rattle.hd_check_walk.proofs.segments.backward_in.Goals as goal

pub returns-then-form-lt10 : goal.returns-then-form-lt10
returns-then-form-lt10 c = λ types code is. backward-kept types code c.args.segment.now c.args.form.now.twins_end 0 is (λ kept. absurd (let short = c.if-form-lt10.true in omega arith)) (λ none. refl)

pub returns : goal.returns
returns c = λ types code is. backward-kept types code c.args.segment.now c.args.form.now.twins_end c.read_u32.result is (λ kept. c.read_u32.ensures) (λ none. absurd (let long = c.if-form-lt10.false in omega arith))
