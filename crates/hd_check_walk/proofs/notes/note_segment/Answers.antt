use Rattle.hd_volume.proofs.CallSteps.{if-ok}
use Rattle.hd_check_blocks.proofs.Lent.{lent}
use Rattle.hd_check_walk.proofs.notes.note_segment.Goals as goal

pub returns-clause-noted : goal.returns-clause-noted
returns-clause-noted g c =
    let d = c.args.dbd.now in
    let v = c.args.volume.now in
    let a = c.args.place.address in
    if-ok c.note_of.result c.note_of.ensures.noted
    (λ o noted sound. noted a v (c.requires.of sound) (lent d v a c.in_ok-segment.segment.now (c.requires.of sound).fit (c.requires.of sound) (c.requires.there sound).0 (c.in_ok-segment.ensures.value sound)) (c.requires.there sound).1)

pub returns-clause-children : goal.returns-clause-children
returns-clause-children g c =
    let d = c.args.dbd.now in
    let v = c.args.volume.now in
    let a = c.args.place.address in
    if-ok c.note_of.result c.note_of.ensures.children
    (λ o noted sound. noted a v (c.requires.of sound) (lent d v a c.in_ok-segment.segment.now (c.requires.of sound).fit (c.requires.of sound) (c.requires.there sound).0 (c.in_ok-segment.ensures.value sound)) (c.requires.there sound).1)
