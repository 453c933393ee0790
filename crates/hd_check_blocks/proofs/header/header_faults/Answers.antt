use Rattle.std.proofs.Common.{◌≡◌, ◌≤◌, ℕ, List, [], ◌∷◌, ◌++◌, length, arith, ap, subst, ◌∙◌}
use Rattle.hd_bytes.specs.Blocks.{HasBlock}
use Rattle.hd_bytes.proofs.BlockLemmas.{length-block}
use Rattle.hd_dbd.specs.Hierarchy.{Database}
use Rattle.hd_volume.specs.Headers.{header_of}
use Rattle.hd_volume.specs.Volumes.{VolumeState, block_at}
use Rattle.hd_check_blocks.specs.declared.fault.Fault.{Fault}
use Rattle.hd_check_blocks.specs.Heads.{AreHeadsListed}
use Rattle.hd_check_blocks.proofs.HeaderFaults.{heads-standing}
use Rattle.hd_check_blocks.proofs.header.header_faults.Goals as goal

pub returns-then-image_length-size-clause-faults : goal.returns-then-image_length-size-clause-faults
returns-then-image_length-size-clause-faults g c = λ sound there.
    let own = c.block_size-size.ensures.value in
    let len = c.length-image_length.ensures sound in
    let short = c.if-image_length-size.true in
    absurd (omega arith)

pub returns-then-image_length-size-clause-alone : goal.returns-then-image_length-size-clause-alone
returns-then-image_length-size-clause-alone g c = λ sound none.
    c.in_ok-list_fault.ensures.faults ∙ ap (λ (l : List Fault). l ++ (c.at.result ∷ [])) c.new-faults.ensures.items ∙ ap (λ (f : Fault). f ∷ []) c.at.ensures

pub returns-clause-faults : goal.returns-clause-faults
returns-clause-faults g c = λ sound there.
    let d : Database = c.args.dbd.now in
    let v : VolumeState = c.args.volume.now in
    let own : c.block_size-size.result ≡ v.size = c.block_size-size.ensures.value in
    let least : 128 ≤ v.size = (let l = c.block_size-size.ensures.least in omega arith) in
    let len : c.length-image_length.result ≡ length v.image = c.length-image_length.ensures sound in
    let head : c.in_ok-head.head.now ≡ block_at v 0 = c.in_ok-head.ensures.value sound in
    let long : 44 ≤ length c.in_ok-head.head.now = (let l = ap (λ (b : List ℕ). length b) head ∙ length-block v.size 0 v.image there in omega arith) in
    let H : ℕ → ℕ → List ℕ → List Fault → Type 0 = λ s n b l. AreHeadsListed d s n (header_of b) l c.list_head.new.faults.items in
    let listed : H c.block_size-size.result c.length-image_length.result c.in_ok-head.head.now c.new-faults.result.items = c.in_ok-list_head.ensures.faults long in
    heads-standing d v c.requires.size least there c.list_head.new.faults.items
    (subst (λ (l : List Fault). H v.size (length v.image) (block_at v 0) l) c.new-faults.ensures.items
    (subst (λ (b : List ℕ). H v.size (length v.image) b c.new-faults.result.items) head
    (subst (λ (n : ℕ). H v.size n c.in_ok-head.head.now c.new-faults.result.items) len
    (subst (λ (s : ℕ). H s c.length-image_length.result c.in_ok-head.head.now c.new-faults.result.items) own listed))))

pub returns-clause-alone : goal.returns-clause-alone
returns-clause-alone g c = λ sound none.
    let own = c.block_size-size.ensures.value in
    let len = c.length-image_length.ensures sound in
    let long = c.if-image_length-size.false in
    absurd (none (omega arith))
