use Rattle.std.proofs.Common.{◌+◌, ℕ, List, sym, subst, arith}
use Rattle.hd_image.specs.declared.line.Line.TheVariants.{NamedTwice}
use Rattle.hd_check_index.specs.declared.noted_blocks.ChainedBlock.{ChainedBlock}
use Rattle.hd_check_index.specs.IndexPhases.{index_block_at}
use Rattle.hd_check_index.proofs.FormFaults.{place-fits}
use Rattle.hd_check_index.proofs.PassedBlocks.{one-more, unless-at}
use Rattle.hd_check_index.proofs.IndexLines.{some-size}
use Rattle.hd_check_index.proofs.ChainLists.{AreListedTo, kind-at, none-twice, twice-more, all-twice-listed}
use Rattle.hd_check_index.proofs.block_names.twice_faults.Goals as goal

pub loop-block-init : goal.loop-block-init
loop-block-init c = λ up top d v h is right of size moved.
    subst (AreListedTo d v 9 c.args.blocks.now 0) (sym c.new-faults.ensures.items) (none-twice d v (some-size d v of) c.args.blocks.now h)

pub loop-block-preserved : goal.loop-block-preserved
loop-block-preserved c = λ up top d v h is right of size moved.
    let bs : List ChainedBlock = c.args.blocks.now in
    let i : ℕ = c.loop-block.block-index in
    let within = c.loop-block-test.true in
    let some = some-size d v of in
    let once = c.is_once-right.result in
    let found = unless-at once NamedTwice (index_block_at bs i).number c.args.size v.size c.fault_unless.result size (place-fits d v (index_block_at bs i).number of (kind-at d v some bs h i within).there) c.fault_unless.ensures in
    subst (AreListedTo d v 9 bs (i + 1)) (sym (one-more c.loop-block.faults.items _ c.fault_unless.result _ c.in_ok-list_fault.ensures.faults found))
    (twice-more d v some bs h top c.args.names.now is right moved i c.loop-block.faults.items once within (λ e. c.is_once-right.ensures.once up e) (λ e. c.is_once-right.ensures.twice up e)
    (c.loop-block.invariant up top d v h is right of size moved))

pub returns-clause-faults : goal.returns-clause-faults
returns-clause-faults c = λ up top d v h is right of size moved.
    let end = c.loop-block-test.false in
    all-twice-listed d v (some-size d v of) c.args.blocks.now h c.loop-block.block-index c.loop-block.faults.items (omega arith) (c.loop-block.invariant up top d v h is right of size moved)
