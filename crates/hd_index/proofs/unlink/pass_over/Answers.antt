use Rattle.std.proofs.Common.{◌≡◌, IsTrue}
use Rattle.hd_volume.proofs.JoinLemmas.{read-one, one-kind}
use Rattle.hd_index.proofs.Drops.{index-block-one, passed}
use Rattle.hd_index.proofs.unlink.pass_over.Goals as goal

pub returns-clause-passed : goal.returns-clause-passed
returns-clause-passed g c sound k left =
    let u = c.args.volume.now in
    let v = c.next_of.new.volume in
    let w = c.set_next.new.volume in
    let read = c.in_ok-next.ensures.read in
    let now : IsTrue v.is_sound = rw read.call.sound sound in
    let one = read-one read now in
    let some = λ (z : c.args.stand.left ≡ 0). (let f = c.if-stand-eq0.false in f z) in
    passed k u v w c.args.stand c.in_ok-next.next one (c.requires.block sound) (c.in_ok-next.ensures.value sound (c.requires.block sound))
    (c.in_ok-set_next.ensures.changed now k (index-block-one k u v c.args.stand.left one (left some)))

pub set_next-requires-clause-there : goal.set_next-requires-clause-there
set_next-requires-clause-there g c now =
    let read = c.in_ok-next.ensures.read in
    let sound : IsTrue c.args.volume.now.is_sound = rw (← read.call.sound) now in
    one-kind (read-one read now) 2 c.args.stand.left (c.requires.left sound (λ z. (let f = c.if-stand-eq0.false in f z))).1.is
