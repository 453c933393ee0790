use Rattle.std.proofs.Common.{◌∙◌}
use Rattle.hd_volume.specs.Buffers.{IsWrittenBack}
use Rattle.hd_volume.proofs.BufferLemmas.{Buffers, stored-image, head-written, image-head-written}
use Rattle.hd_volume.proofs.slots.write_first.Goals as goal

pub returns-clause-contents : goal.returns-clause-contents
returns-clause-contents g c sound =
    let k : Buffers (g.S.BlockStore.size c.args.store.now) (g.S.BlockStore.contents c.args.store.now) c.args.head.now c.args.hand.now =
    record { head_len = c.requires.len.0; hand_len = c.requires.len.1; head_number = c.requires.number; are = c.requires.ready sound } in
    let w : IsWrittenBack c.args.head.now c.write_back.new.buffer =
    record { bytes = c.write_back.ensures.bytes; number = c.write_back.ensures.number; holds = c.write_back.ensures.holds; unchanged = c.in_ok-write_back.ensures.unchanged } in
    c.in_ok-write_back.ensures.contents sound ∙ stored-image k (c.requires.others_stand sound) w

pub returns-clause-image : goal.returns-clause-image
returns-clause-image g c sound =
    let k : Buffers (g.S.BlockStore.size c.args.store.now) (g.S.BlockStore.contents c.args.store.now) c.args.head.now c.args.hand.now =
    record { head_len = c.requires.len.0; hand_len = c.requires.len.1; head_number = c.requires.number; are = c.requires.ready sound } in
    let w : IsWrittenBack c.args.head.now c.write_back.new.buffer =
    record { bytes = c.write_back.ensures.bytes; number = c.write_back.ensures.number; holds = c.write_back.ensures.holds; unchanged = c.in_ok-write_back.ensures.unchanged } in
    rw (c.in_ok-write_back.ensures.contents sound) (image-head-written k (c.requires.others_stand sound) w)

pub returns-clause-ready : goal.returns-clause-ready
returns-clause-ready g c sound =
    let k : Buffers (g.S.BlockStore.size c.args.store.now) (g.S.BlockStore.contents c.args.store.now) c.args.head.now c.args.hand.now =
    record { head_len = c.requires.len.0; hand_len = c.requires.len.1; head_number = c.requires.number; are = c.requires.ready sound } in
    let w : IsWrittenBack c.args.head.now c.write_back.new.buffer =
    record { bytes = c.write_back.ensures.bytes; number = c.write_back.ensures.number; holds = c.write_back.ensures.holds; unchanged = c.in_ok-write_back.ensures.unchanged } in
    rw (c.in_ok-write_back.ensures.contents sound) (head-written k (c.requires.others_stand sound) w)
