use Rattle.std.proofs.Common.{◌≡◌, ◌++◌, ◌+◌, ◌*◌, ℕ, List, IsTrue, Ok, sym, ap, subst, ◌∙◌, arith}
use Rattle.hd_dbd.specs.Hierarchy.{Database}
use Rattle.hd_volume.specs.Headers.{header_of}
use Rattle.hd_volume.specs.Volumes.{VolumeState}
use Rattle.hd_volume.specs.Indexes.{root_key_length}
use Rattle.hd_volume.proofs.CallSteps.{read-none, read-ok, reads-join}
use Rattle.hd_index_blocks.specs.Faultless.{IsFormRight}
use Rattle.hd_index_blocks.specs.LevelFaults.{IsWrongForm}
use Rattle.hd_image.specs.declared.line.Line.TheVariants.{WrongForm}
use Rattle.hd_check_blocks.specs.declared.fault.Fault.{Fault}
use Rattle.hd_check_blocks.specs.Listing.{faults_of}
use Rattle.hd_check_index.specs.declared.table.NotedBlock.{NotedBlock}
use Rattle.hd_check_index.specs.NotedBlocks.{noted_at}
use Rattle.hd_check_index.proofs.NotedTables.{among, table-same}
use Rattle.hd_check_index.proofs.BlockForms.{form-same, wrong-same}
use Rattle.hd_check_index.proofs.FormFaults.{place-fits}
use Rattle.hd_check_index.proofs.PassedBlocks.{one-more, unless-at}
use Rattle.hd_check_index.proofs.IndexLines.{some-size}
use Rattle.hd_check_index.proofs.SetLists.{AreListedTo, kind-at, top-told, form-more, all-forms-listed}
use Rattle.hd_check_index.proofs.forms.set_form_faults.Goals as goal

pub loop-block-init : goal.loop-block-init
loop-block-init g c = record {
  read = read-none c.args.volume.now 0;
  listed = λ sound.
      (let d : Database = c.args.dbd.now in
      let v : VolumeState = c.args.volume.now in
      let of = c.requires.of sound in
      let first = of.formatted.header.first in
      let h = c.requires.blocks sound in
      let top : c.top-top.result ≡ (header_of v.image).top = c.top-top.ensures sound first in
      let height : c.height-height.result ≡ (header_of v.image).height = c.height-height.ensures sound first in
      let listed : c.list_fault.new.faults.items ≡ faults_of c.top_fault.result =
      c.in_ok-list_fault.ensures.faults ∙ ap (λ (l : List Fault). l ++ faults_of c.top_fault.result) c.new-faults.ensures.items in
      subst (AreListedTo d v 8 c.args.blocks.now 0) (sym (listed ∙ ap faults_of c.top_fault.ensures))
      (top-told d v (some-size d v of) c.args.blocks.now h c.top-top.result c.is_top_right-right.result (c.requires.later sound)
      (λ e. c.is_top_right-right.ensures.right e v h top height) (λ e. c.is_top_right-right.ensures.wrong e v h top height)));
}

pub is_block_right-requires-clause-table : goal.is_block_right-requires-clause-table
is_block_right-requires-clause-table g c = λ now.
    let i = c.loop-block.invariant in
    let sound : IsTrue c.args.volume.now.is_sound = rw (← i.read.call.sound) now in
    table-same c.args.volume.now c.loop-block.volume c.args.blocks.now (i.read.image now) i.read.call.size (c.requires.blocks sound)

pub is_block_right-requires-clause-noted : goal.is_block_right-requires-clause-noted
is_block_right-requires-clause-noted g c = λ now. among c.args.blocks.now c.loop-block.block-index c.loop-block-test.true

pub is_block_right-requires-clause-height : goal.is_block_right-requires-clause-height
is_block_right-requires-clause-height g c = λ now.
    let i = c.loop-block.invariant in
    let sound : IsTrue c.args.volume.now.is_sound = rw (← i.read.call.sound) now in
    c.height-height.ensures sound (c.requires.of sound).formatted.header.first ∙ ap (λ (x : List ℕ). (header_of x).height) (sym (i.read.image now))

pub loop-block-preserved : goal.loop-block-preserved
loop-block-preserved g c =
    let d : Database = c.args.dbd.now in
    let v : VolumeState = c.args.volume.now in
    let w : VolumeState = c.loop-block.volume in
    let k : ℕ = root_key_length d.types in
    let bs : List NotedBlock = c.args.blocks.now in
    let x : ℕ = c.loop-block.block-index in
    let n : ℕ = (noted_at bs x).number in
    let i = c.loop-block.invariant in
    record {
      read = read-ok 0 (reads-join (Ok c.in_ok-right.right) i.read c.in_ok-right.ensures.read);
      listed = λ sound.
          (let now : IsTrue w.is_sound = rw i.read.call.sound sound in
          let of = c.requires.of sound in
          let h = c.requires.blocks sound in
          let some = some-size d v of in
          let within = c.loop-block-test.true in
          let right = c.in_ok-right.right in
          let key : c.root_key_length-key_length.result ≡ k = c.root_key_length-key_length.ensures.value in
          let R : ℕ → Type 0 = λ y. IsFormRight y w (noted_at bs x).level n in
          let W : ℕ → Type 0 = λ y. IsWrongForm y w (n * w.size) 0 in
          let found = unless-at right WrongForm n c.block_size-size.result v.size c.fault_unless.result c.block_size-size.ensures.value (place-fits d v n of (kind-at d v some bs h x within).there) c.fault_unless.ensures in
          subst (AreListedTo d v 8 bs (x + 1)) (sym (one-more c.loop-block.faults.items _ c.fault_unless.result _ c.in_ok-list_fault-2.ensures.faults found))
          (form-more d v some bs h x c.loop-block.faults.items right (c.requires.later sound) within
          (λ e. form-same k v w (i.read.image now) i.read.call.size (noted_at bs x).level n (subst R key (c.in_ok-right.ensures.right now e)))
          (λ e. wrong-same k v w (i.read.image now) i.read.call.size n (subst W key (c.in_ok-right.ensures.wrong now e))) (i.listed sound)));
    }

pub returns-clause-faults : goal.returns-clause-faults
returns-clause-faults g c = λ sound.
    let end = c.loop-block-test.false in
    all-forms-listed c.args.dbd.now c.args.volume.now (some-size c.args.dbd.now c.args.volume.now (c.requires.of sound)) c.args.blocks.now (c.requires.blocks sound) c.loop-block.block-index c.loop-block.faults.items (omega arith)
    (c.loop-block.invariant.listed sound)
