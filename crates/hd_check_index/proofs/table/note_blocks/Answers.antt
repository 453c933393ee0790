use Rattle.std.proofs.Common.{◌<◌, ◌≤◌, Ok, IsTrue, arith}
use Rattle.hd_volume.specs.Headers.{HasHeader}
use Rattle.hd_volume.specs.Volumes.{VolumeState}
use Rattle.hd_volume.proofs.KindLemmas.{below-count}
use Rattle.hd_volume.proofs.CallSteps.{read-ok, reads-join}
use Rattle.hd_check_index.proofs.NotedTables.{noted-more, all-noted, noted-same}
use Rattle.hd_check_index.proofs.table.note_blocks.Goals as goal

pub loop-n-preserved : goal.loop-n-preserved
loop-n-preserved g c =
    let v : VolumeState = c.args.volume.now in
    let w : VolumeState = c.loop-n.volume in
    let i = c.loop-n.invariant in
    let positive : 1 ≤ c.loop-n.n = i.first in
    record {
      read = read-ok 0 (reads-join (Ok c.in_ok-note_block.field-0) i.read c.in_ok-note_block.ensures.read);
      first = omega arith;
      noted = λ sound.
          (let now : IsTrue w.is_sound = rw i.read.call.sound sound in
          noted-more v c.loop-n.n c.loop-n.blocks.items c.note_block.new.blocks.items (omega arith) (i.noted sound)
          (noted-same v w c.loop-n.n c.loop-n.blocks.items c.note_block.new.blocks.items (i.read.image now) i.read.call.size (c.in_ok-note_block.ensures.noted now)));
    }

pub returns-clause-blocks : goal.returns-clause-blocks
returns-clause-blocks g c = λ sound.
    let v : VolumeState = c.args.volume.now in
    let i = c.loop-n.invariant in
    let h : HasHeader v.size v.image = c.requires.header sound in
    let first = h.first in
    let count = c.block_count.ensures sound first in
    let low = c.min-count.ensures in
    let bound = h.bound in
    let within = h.within in
    let end = c.loop-n-test.false in
    let some : 0 < v.size = (let own = c.block_size-least.ensures.value in let least = c.block_size-least.ensures.least in omega arith) in
    all-noted v c.loop-n.n c.loop-n.blocks.items (i.noted sound) (λ m k. (let less = below-count v m h some k.there in omega arith))
