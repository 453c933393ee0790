use Rattle.std.proofs.Common.{◌+◌, sym, ap, subst, ◌∙◌, arith}
use Rattle.hd_image.specs.Records.{links_of}
use Rattle.hd_forest.specs.Walks.{AreSegments, next_on}
use Rattle.hd_forest.proofs.RowSteps.{row-steps}
use Rattle.hd_get.proofs.Grounds.{grounds}
use Rattle.hd_get.proofs.Climbs.{stays}
use Rattle.hd_get.proofs.steps.next.Goals as goal

pub next_row-requires-clause-holds : goal.next_row-requires-clause-holds
next_row-requires-clause-holds g c sound = (let T = c.requires.there sound in (T.0, T.2.holds))

pub next_row-requires-clause-there : goal.next_row-requires-clause-there
next_row-requires-clause-there g c sound =
    let d = c.args.dbd.now in
    let u = c.args.volume.now in
    let T = c.requires.there sound in
    subst (AreSegments (links_of d.types u)) (sym T.2.is) ((row-steps d u T.0 (c.requires.of sound) T.2.holds).segments T.1 T.2.within)

pub returns-clause-value : goal.returns-clause-value
returns-clause-value g c f i at end E =
    let d = c.args.dbd.now in
    let u = c.args.volume.now in
    let m = links_of d.types u in
    let G = grounds d u f (c.requires.of at.sound) at.row.holds in
    let S = row-steps d u f (c.requires.of at.sound) at.row.holds in
    c.stay_below.ensures
    ∙ stays d.types f m G.addressed c.args.parent i end (i + 1) c.next_row.new.path E (omega arith)
    (c.in_ok-next_row.ensures.value at.sound ∙ ap (next_on d.types m) at.row.is ∙ S.next i at.row.within)
