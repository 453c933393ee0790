use Rattle.std.proofs.Common.{◌+◌, ℕ, List, sym, subst, arith}
use Rattle.hd_image.specs.declared.line.Line.TheVariants.{UnreachedBlock}
use Rattle.hd_check_index.specs.declared.table.NotedBlock.{NotedBlock}
use Rattle.hd_check_index.specs.Marks.{mark_at}
use Rattle.hd_check_index.specs.NotedBlocks.{noted_at}
use Rattle.hd_check_index.proofs.FormFaults.{place-fits}
use Rattle.hd_check_index.proofs.PassedBlocks.{one-more, unless-at}
use Rattle.hd_check_index.proofs.IndexLines.{some-size}
use Rattle.hd_check_index.proofs.SetLists.{AreListedTo, kind-at, none-unreached, unreached-more, all-unreached-listed}
use Rattle.hd_check_index.proofs.reach.unmarked_faults.Goals as goal

pub loop-i-init : goal.loop-i-init
loop-i-init c = λ d v of later h size rows are marked.
    subst (AreListedTo d v 10 c.args.blocks.now 0) (sym c.new-faults.ensures.items) (none-unreached d v (some-size d v of) c.args.blocks.now h)

pub loop-i-preserved : goal.loop-i-preserved
loop-i-preserved c = λ d v of later h size rows are marked.
    let bs : List NotedBlock = c.args.blocks.now in
    let i : ℕ = c.loop-i.i in
    let within = c.loop-i-test.true in
    let some = some-size d v of in
    let found = unless-at (mark_at c.args.marks.now i) UnreachedBlock (noted_at bs i).number c.args.size v.size c.fault_unless.result size (place-fits d v (noted_at bs i).number of (kind-at d v some bs h i within).there) c.fault_unless.ensures in
    subst (AreListedTo d v 10 bs (i + 1)) (sym (one-more c.loop-i.faults.items _ c.fault_unless.result _ c.in_ok-list_fault.ensures.faults found))
    (unreached-more d v some bs h rows c.args.marks.now later are marked i c.loop-i.faults.items within (c.loop-i.invariant d v of later h size rows are marked))

pub returns-clause-faults : goal.returns-clause-faults
returns-clause-faults c = λ d v of later h size rows are marked.
    let end = c.loop-i-test.false in
    all-unreached-listed d v (some-size d v of) c.args.blocks.now h c.loop-i.i c.loop-i.faults.items (omega arith) (c.loop-i.invariant d v of later h size rows are marked)
