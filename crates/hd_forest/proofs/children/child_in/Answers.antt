use Rattle.std.proofs.Common.{refl, sym}
use Rattle.hd_forest.proofs.FirstChildren.{none-in}
use Rattle.hd_forest.proofs.children.child_in.Goals as goal

pub returns-then-names_no_children : goal.returns-then-names_no_children
returns-then-names_no_children c = λ whole. sym (none-in c.args.dbd.now.types c.args.segment.now c.args.types.now (c.if-names_no_children.ensures refl))
