use Rattle.std.proofs.Common.{IsTrue, ℕ, length, arith}
use Rattle.hd_volume.proofs.FrameLemmas.{AreSame}
use Rattle.hd_index.proofs.EntryEdits.{bytes-of-none}
use Rattle.hd_index.proofs.StepLemmas.{own-level, own-bears, taken-bears, added-bears, begun}
use Rattle.hd_index.proofs.begin.begin_block.Goals as goal

pub returns-clause-begun : goal.returns-clause-begun
returns-clause-begun g c sound =
    let u = c.args.volume.now in
    let v = c.take_block.new.self in
    let x = c.add_entry.new.volume in
    let now : IsTrue v.is_sound = rw c.in_ok-m.ensures.call.sound sound in
    let last : IsTrue x.is_sound = rw c.in_ok-add_entry.ensures.call.sound now in
    let same : AreSame u v = record { size = c.in_ok-m.ensures.call.size; sizes = c.in_ok-m.ensures.call.sizes } in
    let least = c.requires.least in
    let t = c.in_ok-m.ensures.taken sound in
    begun c.args.level c.in_ok-m.m c.args.key.now c.args.address c.args.next same (c.requires.formatted sound) (omega arith) t (c.in_ok-add_entry.ensures.added now)
    (c.in_ok-set_next.ensures.changed last (length c.args.key.now) (own-bears (length c.args.key.now) c.args.level x c.in_ok-m.m (added-bears c.args.level c.in_ok-m.m c.args.key.now c.args.address t (c.in_ok-add_entry.ensures.added now))).is)

pub add_entry-requires-clause-block : goal.add_entry-requires-clause-block
add_entry-requires-clause-block g c now =
    let k : ℕ = length c.args.key.now in
    let sound : IsTrue c.args.volume.now.is_sound = rw (← c.in_ok-m.ensures.call.sound) now in
    own-level k c.args.level c.take_block.new.self c.in_ok-m.m (taken-bears k c.args.level c.in_ok-m.m (c.in_ok-m.ensures.taken sound)).is

pub add_entry-requires-clause-count : goal.add_entry-requires-clause-count
add_entry-requires-clause-count g c now =
    let k : ℕ = length c.args.key.now in
    let sound : IsTrue c.args.volume.now.is_sound = rw (← c.in_ok-m.ensures.call.sound) now in
    let size = c.in_ok-m.ensures.call.size in
    let least = c.requires.least in
    (bytes-of-none k c.args.level c.take_block.new.self c.in_ok-m.m 0 (taken-bears k c.args.level c.in_ok-m.m (c.in_ok-m.ensures.taken sound)) (omega arith)).count
