use Rattle.std.proofs.Common.{ℕ, List, Ok, IsTrue, sym}
use Rattle.hd_volume.specs.Volumes.{VolumeState}
use Rattle.hd_volume.proofs.CallSteps.{read-ok, reads-join}
use Rattle.hd_check_index.specs.declared.table.NotedBlock.{NotedBlock}
use Rattle.hd_check_index.specs.NotedBlocks.{noted_at}
use Rattle.hd_check_index.proofs.NotedTables.{among, kind-same}
use Rattle.hd_check_index.proofs.BlockForms.{form-same, level-own}
use Rattle.hd_check_index.proofs.TwiceNamedBelow.{names-more}
use Rattle.hd_check_index.proofs.names.names_of.Goals as goal

pub add_names-requires-clause-there : goal.add_names-requires-clause-there
add_names-requires-clause-there g c = λ now.
    let v : VolumeState = c.args.volume.now in
    let w : VolumeState = c.loop-block.volume in
    let i = c.loop-block.invariant in
    let sound : IsTrue v.is_sound = rw (← i.read.call.sound) now in
    let b : NotedBlock = noted_at c.args.blocks.now c.loop-block.block-index in
    (kind-same w v 2 b.number (sym (i.read.image now)) (sym i.read.call.size) ((c.requires.blocks sound).there b (among c.args.blocks.now c.loop-block.block-index c.loop-block-test.true)).0).there

pub add_names-requires-clause-right : goal.add_names-requires-clause-right
add_names-requires-clause-right g c = λ now.
    let v : VolumeState = c.args.volume.now in
    let w : VolumeState = c.loop-block.volume in
    let i = c.loop-block.invariant in
    let sound : IsTrue v.is_sound = rw (← i.read.call.sound) now in
    let bs : List NotedBlock = c.args.blocks.now in
    let b : NotedBlock = noted_at bs c.loop-block.block-index in
    form-same c.args.key_length w v (sym (i.read.image now)) (sym i.read.call.size) b.level b.number
    ((c.requires.forms sound).blocks b.number b.level (level-own v bs b (c.requires.blocks sound) (among bs c.loop-block.block-index c.loop-block-test.true)))

pub loop-block-preserved : goal.loop-block-preserved
loop-block-preserved g c =
    let v : VolumeState = c.args.volume.now in
    let w : VolumeState = c.loop-block.volume in
    let k : ℕ = c.args.key_length in
    let i = c.loop-block.invariant in
    let bs : List NotedBlock = c.args.blocks.now in
    let x : ℕ = c.loop-block.block-index in
    record {
      read = read-ok 0 (reads-join (Ok c.in_ok-add_names.field-0) i.read c.in_ok-add_names.ensures.read);
      names = λ sound.
          (let now : IsTrue w.is_sound = rw i.read.call.sound sound in
          names-more k v w bs c.args.top x c.loop-block.names.items c.add_names.new.names.items (i.read.image now) i.read.call.size c.loop-block-test.true (i.names sound)
          (c.in_ok-add_names.ensures.names now));
    }
