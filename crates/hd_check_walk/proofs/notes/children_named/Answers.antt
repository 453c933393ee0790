use Rattle.hd_check_blocks.proofs.Lent.{lent}
use Rattle.hd_check_walk.proofs.notes.children_named.Goals as goal

pub returns-clause-first : goal.returns-clause-first
returns-clause-first g c = λ sound.
    let of = c.requires.of sound in
    let there = c.requires.there sound in
    let a = c.args.place.address in
    c.child_in.ensures.first a c.args.volume.now of (lent c.args.dbd.now c.args.volume.now a c.in_ok-segment.segment.now of.fit of there.0 (c.in_ok-segment.ensures.value sound)) there.1

pub returns-clause-last : goal.returns-clause-last
returns-clause-last g c = λ sound.
    let of = c.requires.of sound in
    let there = c.requires.there sound in
    let a = c.args.place.address in
    c.child_in.ensures.last a c.args.volume.now of (lent c.args.dbd.now c.args.volume.now a c.in_ok-segment.segment.now of.fit of there.0 (c.in_ok-segment.ensures.value sound)) there.1
