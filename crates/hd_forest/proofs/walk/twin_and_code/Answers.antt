use Rattle.hd_forest.proofs.Reading.{lent, forward-lent}
use Rattle.hd_forest.proofs.walk.twin_and_code.Goals as goal

pub returns-clause-twin : goal.returns-clause-twin
returns-clause-twin g c sound =
    let d = c.args.dbd.now in
    let v = c.args.volume.now in
    let s = c.in_ok-segment.segment.now in
    let of = c.requires.of sound in
    let l = lent d v c.args.address s of.fit of (c.requires.there sound) (c.in_ok-segment.ensures.value sound) in
    forward-lent d.types v c.args.address s l c.twin_in.result c.twin_in.ensures.twin
