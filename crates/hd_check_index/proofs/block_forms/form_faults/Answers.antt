use Rattle.std.proofs.Common.{◌≡◌, ◌++◌, ◌+◌, ℕ, List, sym, ap, subst, ◌∙◌, arith}
use Rattle.hd_image.specs.declared.line.Line.TheVariants.{WrongForm}
use Rattle.hd_check_blocks.specs.declared.fault.Fault.{Fault}
use Rattle.hd_check_blocks.specs.Listing.{faults_of}
use Rattle.hd_volume.specs.Indexes.{root_key_length}
use Rattle.hd_check_index.specs.declared.noted_blocks.ChainedBlock.{ChainedBlock}
use Rattle.hd_check_index.specs.IndexPhases.{index_block_at}
use Rattle.hd_check_index.proofs.IndexTables.{among, form-is, own-block}
use Rattle.hd_check_index.proofs.FormFaults.{place-fits}
use Rattle.hd_check_index.proofs.PassedBlocks.{one-more, unless-at}
use Rattle.hd_check_index.proofs.IndexLines.{some-size}
use Rattle.hd_check_index.proofs.ChainLists.{AreListedTo, kind-at, top-told, form-more, all-forms-listed}
use Rattle.hd_check_index.proofs.block_forms.form_faults.Goals as goal

pub loop-i-init : goal.loop-i-init
loop-i-init c = λ d v of one h f top height room size.
    let listed : c.list_fault.new.faults.items ≡ faults_of c.top_fault.result =
    c.in_ok-list_fault.ensures.faults ∙ ap (λ (l : List Fault). l ++ faults_of c.top_fault.result) c.new-faults.ensures.items in
    subst (AreListedTo d v 8 c.args.blocks.now 0) (sym (listed ∙ ap faults_of c.top_fault.ensures))
    (top-told d v (some-size d v of) c.args.blocks.now h c.args.top c.is_top_right-right.result one (λ e. c.is_top_right-right.ensures.right e v h f top height) (λ e. c.is_top_right-right.ensures.wrong e v h f top height))

pub loop-i-preserved : goal.loop-i-preserved
loop-i-preserved c = λ d v of one h f top height room size.
    let bs : List ChainedBlock = c.args.blocks.now in
    let i : ℕ = c.loop-i.i in
    let k : ℕ = root_key_length d.types in
    let within = c.loop-i-test.true in
    let some = some-size d v of in
    let own = own-block v bs (index_block_at bs i) h (among bs i within) in
    let form = form-is v bs c.args.forms.now i f within in
    let right = c.is_block_right-right.result in
    let found = unless-at right WrongForm (index_block_at bs i).number c.args.size v.size c.fault_unless.result size (place-fits d v (index_block_at bs i).number of (kind-at d v some bs h i within).there) c.fault_unless.ensures in
    subst (AreListedTo d v 8 bs (i + 1)) (sym (one-more c.loop-i.faults.items _ c.fault_unless.result _ c.in_ok-list_fault-2.ensures.faults found))
    (form-more d v some bs h i c.loop-i.faults.items right one within (λ e. c.is_block_right-right.ensures.right e k v h f height room own form) (λ e. c.is_block_right-right.ensures.wrong e k v h f height room own form)
    (c.loop-i.invariant d v of one h f top height room size))

pub returns-clause-faults : goal.returns-clause-faults
returns-clause-faults c = λ d v of one h f top height room size.
    let end = c.loop-i-test.false in
    all-forms-listed d v (some-size d v of) c.args.blocks.now h c.loop-i.i c.loop-i.faults.items (omega arith) (c.loop-i.invariant d v of one h f top height room size)
