use Rattle.std.proofs.Common.{ap, sym, subst, ◌∙◌}
use Rattle.hd_links.specs.Links.{IsSegment}
use Rattle.hd_image.specs.Records.{links_of}
use Rattle.hd_get.proofs.Grounds.{grounds, tip_is, tip_there}
use Rattle.hd_get.proofs.LastTwins.{last_twin_is}
use Rattle.hd_get.proofs.twin_tests.is_last_twin.Goals as goal

pub next_twin-requires-clause-there : goal.next_twin-requires-clause-there
next_twin-requires-clause-there g c sound =
    let d = c.args.dbd.now in
    let u = c.args.volume.now in
    let T = c.requires.there sound in
    subst (IsSegment (links_of d.types u)) (sym c.tip_of.ensures) (tip_there d.types (links_of d.types u) T.0 (grounds d u T.0 (c.requires.of sound) T.2.holds) c.args.path.now T.1 T.2)

pub returns-clause-value : goal.returns-clause-value
returns-clause-value g c f i at =
    let d = c.args.dbd.now in
    let u = c.args.volume.now in
    let m = links_of d.types u in
    let G = grounds d u f (c.requires.of at.sound) at.row.holds in
    last_twin_is d.types f i m G.addressed at.row.within (G.steps i at.row.within) c.in_ok-next_twin.field-0
    (c.in_ok-next_twin.ensures.value at.sound ∙ ap m.forward (c.tip_of.ensures ∙ tip_is d.types m f G c.args.path.now i at.row))
