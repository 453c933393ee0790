use Rattle.std.proofs.Common.{◌≡◌, List, Ok, IsTrue, length, ap, arith}
use Rattle.hd_volume.specs.Volumes.{VolumeState}
use Rattle.hd_volume.proofs.CallSteps.{read-ok, reads-join}
use Rattle.hd_index_blocks.specs.IndexSets.{index_blocks}
use Rattle.hd_check_index.specs.declared.rows.Standing.{Standing}
use Rattle.hd_check_index.specs.Rows.{row_of}
use Rattle.hd_check_index.specs.Listed.{AtAddress, AreOrdersListed}
use Rattle.hd_check_index.proofs.RowOrders.{forms-same, row-length, row-number, slice-from, seen-read, seen-all}
use Rattle.hd_check_index.proofs.PassedBlocks.{one-more}
use Rattle.hd_check_index.proofs.RowLists.{listed-notes}
use Rattle.hd_check_index.proofs.set_orders.list_row.Goals as goal

pub judge_next-requires-clause-forms : goal.judge_next-requires-clause-forms
judge_next-requires-clause-forms g c = λ now.
    let v : VolumeState = c.args.volume.now in
    let i = c.loop-block.invariant in
    let sound : IsTrue v.is_sound = rw (← i.read.call.sound) now in
    forms-same c.args.key_length v c.loop-block.volume i.read.call.size (i.read.image now) (c.requires.forms sound)

pub loop-block-preserved : goal.loop-block-preserved
loop-block-preserved g c =
    let v : VolumeState = c.args.volume.now in
    let w : VolumeState = c.loop-block.volume in
    let i = c.loop-block.invariant in
    record {
      read = read-ok 0 (reads-join (Ok c.in_ok-judged.judged) i.read c.in_ok-judged.ensures.read);
      within = (let least = c.min-place.ensures in omega arith);
      seen = λ sound ns is h.
          (let now : IsTrue w.is_sound = rw i.read.call.sound sound in
          let less = c.loop-block-test.true in
          let len = row-length c.args.level ns in
          let same : length c.args.row.now ≡ length (row_of c.args.level ns) = ap (λ (t : List Standing). length t) is in
          seen-read c.args.key_length v w c.args.level ns c.loop-block.block-index c.args.below.now c.loop-block.own.items c.judge_next.new.own.items c.loop-block.left c.loop-block.place c.min-place.result
          (λ P. AreOrdersListed (AtAddress c.args.size P) c.args.faults.now.items c.loop-block.faults.items) (λ P. AreOrdersListed (AtAddress c.args.size P) c.args.faults.now.items c.list_fault.new.faults.items) c.in_ok-judged.judged.found c.in_ok-judged.judged.extent c.in_ok-judged.judged.count c.judge_next.new.left _ _
          (row-number c.args.level ns c.args.row.now c.loop-block.block-index _ is less) (slice-from c.args.below.now c.loop-block.place) i.read.call.size (i.read.image now) (omega arith)
          (listed-notes c.args.size _ c.in_ok-judged.judged.found c.args.faults.now.items c.loop-block.faults.items c.list_fault.new.faults.items (one-more c.loop-block.faults.items _ c.fault_naming.result _ c.in_ok-list_fault.ensures.faults
          (c.fault_naming.ensures (c.requires.fits sound _ c.args.level (c.requires.level sound c.loop-block.block-index less))))) (i.seen sound ns is h)
          (c.in_ok-judged.ensures.found now) (c.in_ok-judged.ensures.left now) (c.in_ok-judged.ensures.extent now) (c.in_ok-judged.ensures.count now)
          c.in_ok-judged.ensures.own c.min-place.ensures);
    }

pub returns-clause-own : goal.returns-clause-own
returns-clause-own g c = λ sound ns is h.
    let high = c.loop-block-test.false in
    let low = c.loop-block.auto.block-index-end in
    let len = row-length c.args.level ns in
    let same : length c.args.row.now ≡ length (row_of c.args.level ns) = ap (λ (t : List Standing). length t) is in
    (seen-all c.args.key_length (index_blocks c.args.key_length c.args.volume.now) c.args.level ns c.loop-block.block-index c.args.below.now c.loop-block.own.items c.loop-block.left c.loop-block.place (λ P. AreOrdersListed (AtAddress c.args.size P) c.args.faults.now.items c.loop-block.faults.items)
    (omega arith) (c.loop-block.invariant.seen sound ns is h)).0

pub returns-clause-faults : goal.returns-clause-faults
returns-clause-faults g c = λ sound ns is h.
    let high = c.loop-block-test.false in
    let low = c.loop-block.auto.block-index-end in
    let len = row-length c.args.level ns in
    let same : length c.args.row.now ≡ length (row_of c.args.level ns) = ap (λ (t : List Standing). length t) is in
    (seen-all c.args.key_length (index_blocks c.args.key_length c.args.volume.now) c.args.level ns c.loop-block.block-index c.args.below.now c.loop-block.own.items c.loop-block.left c.loop-block.place (λ P. AreOrdersListed (AtAddress c.args.size P) c.args.faults.now.items c.loop-block.faults.items)
    (omega arith) (c.loop-block.invariant.seen sound ns is h)).1
