use Rattle.hd_prefix.specs.declared.pointer.Pointer.TheVariants.{FirstChild, LastChild}
use Rattle.hd_check_walk.proofs.SegmentFacts.{layout-read, first-lent, last-lent}
use Rattle.hd_check_walk.proofs.notes.child_in.Goals as goal

pub returns-clause-first : goal.returns-clause-first
returns-clause-first c = λ a v of lent coded.
    let types = c.args.dbd.now.types in
    let layout = c.of-layout in
    first-lent types v a c.args.code c.args.segment.now lent coded c.args.child c.read.result
    (layout-read types layout.result.dbd.now.types c.args.code layout.result.code (FirstChild c.args.child) c.args.segment.now c.read.result layout.ensures.types layout.ensures.code c.read.ensures)

pub returns-clause-last : goal.returns-clause-last
returns-clause-last c = λ a v of lent coded.
    let types = c.args.dbd.now.types in
    let layout = c.of-layout in
    last-lent types v a c.args.code c.args.segment.now lent coded c.args.child c.read-2.result
    (layout-read types layout.result.dbd.now.types c.args.code layout.result.code (LastChild c.args.child) c.args.segment.now c.read-2.result layout.ensures.types layout.ensures.code c.read-2.ensures)
