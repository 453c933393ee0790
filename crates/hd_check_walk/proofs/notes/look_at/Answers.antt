use Rattle.hd_check_blocks.proofs.Lent.{lent}
use Rattle.hd_check_walk.proofs.Noted.{seen-is}
use Rattle.hd_check_walk.proofs.notes.look_at.Goals as goal

pub returns-clause-seen : goal.returns-clause-seen
returns-clause-seen g c = λ sound.
    let d = c.args.dbd.now in
    let v = c.args.volume.now in
    let a = c.args.place.address in
    let of = c.requires.of sound in
    let there = c.requires.there sound in
    let e = c.seen_in.ensures in
    seen-is d v a c.args.place.code c.in_ok-segment.segment.now c.seen_in.result of (lent d v a c.in_ok-segment.segment.now of.fit of there.0 (c.in_ok-segment.ensures.value sound)) there.1
    e.delete_byte e.forward e.backward e.front e.childless
