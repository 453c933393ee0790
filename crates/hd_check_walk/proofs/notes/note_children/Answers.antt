use Rattle.std.proofs.Common.{◌≡◌, length, arith}
use Rattle.hd_check_walk.proofs.SegmentFacts.{has-children}
use Rattle.hd_check_walk.proofs.notes.note_children.Goals as goal

pub returns-clause-children : goal.returns-clause-children
returns-clause-children c = λ a v of lent coded.
    let start : c.len-start.result ≡ length c.args.named.now.items = omega (arith, c.args.named.now.ok.0) in
    has-children c.args.dbd.now.types v a c.args.code c.args.segment.now lent coded c.args.named.now.items c.note_each_child.new.named.items c.len-start.result start c.in_ok-note_each_child.ensures.noted
