use Rattle.std.proofs.Common.{◌≡◌, ℕ, List, inl, inr, Ok, IsTrue, subst, arith}
use Rattle.std.proofs.lemmas.Bool.{cases_lt}
use Rattle.hd_volume.specs.Volumes.{VolumeState}
use Rattle.hd_volume.proofs.CallSteps.{read-ok, reads-join}
use Rattle.hd_index_blocks.specs.Faultless.{IsFormRight}
use Rattle.hd_check_index.specs.declared.table.NotedBlock.{NotedBlock}
use Rattle.hd_check_index.specs.NotedBlocks.{noted_at}
use Rattle.hd_check_index.proofs.NotedTables.{among, table-same}
use Rattle.hd_check_index.proofs.BlockForms.{none-wrong, first-wrong, form-same, wrong-same}
use Rattle.hd_check_index.proofs.forms.wrong_form.Goals as goal

pub is_block_right-requires-clause-table : goal.is_block_right-requires-clause-table
is_block_right-requires-clause-table g c = λ now.
    let i = c.loop-block.invariant in
    let sound : IsTrue c.args.volume.now.is_sound = rw (← i.read.call.sound) now in
    table-same c.args.volume.now c.loop-block.volume c.args.blocks.now (i.read.image now) i.read.call.size (c.requires.blocks sound)

pub is_block_right-requires-clause-noted : goal.is_block_right-requires-clause-noted
is_block_right-requires-clause-noted g c = λ now. among c.args.blocks.now c.loop-block.block-index c.loop-block-test.true

pub returns-then-not-right-clause-found : goal.returns-then-not-right-clause-found
returns-then-not-right-clause-found g c = λ sound.
    let v : VolumeState = c.args.volume.now in
    let w : VolumeState = c.loop-block.volume in
    let k : ℕ = c.args.key_length in
    let bs : List NotedBlock = c.args.blocks.now in
    let x : ℕ = c.loop-block.block-index in
    let i = c.loop-block.invariant in
    let now : IsTrue w.is_sound = rw i.read.call.sound sound in (
      tt,
      first-wrong k v bs x (c.requires.blocks sound) c.loop-block-test.true (i.right sound)
          (wrong-same k v w (i.read.image now) i.read.call.size (noted_at bs x).number (c.in_ok-right.ensures.wrong now c.if-not-right.true)),
    )

pub loop-block-preserved : goal.loop-block-preserved
loop-block-preserved g c =
    let v : VolumeState = c.args.volume.now in
    let w : VolumeState = c.loop-block.volume in
    let k : ℕ = c.args.key_length in
    let bs : List NotedBlock = c.args.blocks.now in
    let x : ℕ = c.loop-block.block-index in
    let i = c.loop-block.invariant in
    record {
      read = read-ok 0 (reads-join (Ok c.in_ok-right.right) i.read c.in_ok-right.ensures.read);
      right = λ sound j low.
          (let now : IsTrue w.is_sound = rw i.read.call.sound sound in
          elim (cases_lt j x) [
            | inl before ↦ i.right sound j before
            | inr high ↦
                (let at : x ≡ j = omega arith in
                subst (λ (y : ℕ). IsFormRight k v (noted_at bs y).level (noted_at bs y).number) at
                (form-same k v w (i.read.image now) i.read.call.size (noted_at bs x).level (noted_at bs x).number (c.in_ok-right.ensures.right now c.if-not-right.false)))
          ]);
    }

pub returns-clause-found : goal.returns-clause-found
returns-clause-found g c = λ sound.
    let end = c.loop-block-test.false in
    let last = c.loop-block.auto.block-index-end in
    (none-wrong c.args.key_length c.args.volume.now c.args.blocks.now (c.requires.blocks sound) (λ j low. c.loop-block.invariant.right sound j (omega arith)), tt)
