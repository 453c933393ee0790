use Rattle.std.proofs.Common.{◌+◌, ℕ, List, refl, sym, subst, arith}
use Rattle.hd_volume.specs.Entries.{entry_blocks}
use Rattle.hd_image.specs.declared.line.Line.TheVariants.{UnreachedBlock}
use Rattle.hd_check_index.specs.declared.noted_blocks.ChainedBlock.{ChainedBlock}
use Rattle.hd_check_index.specs.Marks.{mark_at}
use Rattle.hd_check_index.specs.IndexPhases.{index_block_at}
use Rattle.hd_check_index.proofs.FormFaults.{place-fits}
use Rattle.hd_check_index.proofs.PassedBlocks.{one-more, unless-at}
use Rattle.hd_check_index.proofs.IndexLines.{some-size}
use Rattle.hd_check_index.proofs.ChainLists.{AreListedTo, kind-at, none-unreached, unreached-more, all-unreached-listed}
use Rattle.hd_check_index.proofs.block_chain.unmarked_faults.Goals as goal

pub loop-i-init : goal.loop-i-init
loop-i-init c = λ top d v h is right of size marked.
    subst (AreListedTo d v 10 c.args.blocks.now 0) (sym c.new-faults.ensures.items) (none-unreached d v (some-size d v of) c.args.blocks.now h)

pub loop-i-preserved : goal.loop-i-preserved
loop-i-preserved c = λ top d v h is right of size marked.
    let bs : List ChainedBlock = c.args.blocks.now in
    let i : ℕ = c.loop-i.i in
    let within = c.loop-i-test.true in
    let some = some-size d v of in
    let found = unless-at (mark_at c.args.marks.now i) UnreachedBlock (index_block_at bs i).number c.args.size v.size c.fault_unless.result size (place-fits d v (index_block_at bs i).number of (kind-at d v some bs h i within).there) c.fault_unless.ensures in
    subst (AreListedTo d v 10 bs (i + 1)) (sym (one-more c.loop-i.faults.items _ c.fault_unless.result _ c.in_ok-list_fault.ensures.faults found))
    (unreached-more d v some bs h c.args.marks.now (entry_blocks v) right.version refl marked i c.loop-i.faults.items within (c.loop-i.invariant top d v h is right of size marked))

pub returns-clause-faults : goal.returns-clause-faults
returns-clause-faults c = λ top d v h is right of size marked.
    let end = c.loop-i-test.false in
    all-unreached-listed d v (some-size d v of) c.args.blocks.now h c.loop-i.i c.loop-i.faults.items (omega arith) (c.loop-i.invariant top d v h is right of size marked)
