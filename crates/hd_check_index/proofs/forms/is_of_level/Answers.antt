use Rattle.hd_check_index.proofs.BlockForms.{level-right, level-wrong, level-none}
use Rattle.hd_check_index.proofs.forms.is_of_level.Goals as goal

pub returns-in-None-clause-wrong : goal.returns-in-None-clause-wrong
returns-in-None-clause-wrong c = λ e v h. level-none v c.args.blocks.now c.args.number c.args.level h (c.in-None.ensures.none h.ascend)

pub returns-in-Some-clause-right : goal.returns-in-Some-clause-right
returns-in-Some-clause-right c = λ e v h. level-right v c.args.blocks.now c.args.number c.args.level c.in-Some.at h c.in-Some.ensures.some.0 c.in-Some.ensures.some.1 e

pub returns-in-Some-clause-wrong : goal.returns-in-Some-clause-wrong
returns-in-Some-clause-wrong c = λ e v h. level-wrong v c.args.blocks.now c.args.number c.args.level c.in-Some.at h c.in-Some.ensures.some.0 c.in-Some.ensures.some.1 e
