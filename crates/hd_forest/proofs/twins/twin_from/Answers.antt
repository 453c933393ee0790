use Rattle.std.proofs.Common.{sym, ap, ◌∙◌}
use Rattle.hd_links.specs.Links.{segment_at}
use Rattle.hd_image.specs.Records.{links_of}
use Rattle.hd_forest.specs.TwinPlaces.{twin_places}
use Rattle.hd_forest.proofs.Walking.{addressed}
use Rattle.hd_forest.proofs.TwinsBelow.{no_places, passes_none, passed_to}
use Rattle.hd_forest.proofs.twins.twin_from.Goals as goal

pub returns-in_default-clause-value : goal.returns-in_default-clause-value
returns-in_default-clause-value g c sound =
    let d = c.args.dbd.now in
    let u = c.args.volume.now in
    let of = c.requires.of sound in
    let h = c.requires.holds sound in
    let m = links_of d.types u in
    let A = addressed d u h.0 of.fit of h.1 in
    passed_to d.types m h.0 A c.args.key.now c.args.address 0 c.args.address (passes_none d.types m h.0 A c.args.key.now c.args.address (c.requires.there sound))
    (no_places d.types c.args.key.now (segment_at m c.args.address) (ap (twin_places d.types) (c.requires.typed sound) ∙ sym c.twin_places.ensures ∙ c.in_default.is))

pub twins_around-requires-clause-places : goal.twins_around-requires-clause-places
twins_around-requires-clause-places g c sound = ap (twin_places c.args.dbd.now.types) (c.requires.typed sound) ∙ sym c.twin_places.ensures ∙ c.in-Some.is
