use Rattle.std.proofs.Common.{◌<◌, ap, sym, subst, ◌∙◌, refl}
use Rattle.hd_volume.proofs.CallSteps.{reads-join}
use Rattle.hd_links.specs.Links.{Links, IsSegment}
use Rattle.hd_links.specs.Steps.{behind_span}
use Rattle.hd_image.specs.Records.{links_of}
use Rattle.hd_forest.proofs.Reading.{links-kept, volume-kept}
use Rattle.hd_forest.proofs.Held.{held}
use Rattle.hd_forest.proofs.Climbs.{MayBe, span-may}
use Rattle.hd_forest.proofs.walk.next_after_span.Goals as goal

pub step-requires-clause-of : goal.step-requires-clause-of
step-requires-clause-of g c = volume-kept c.args.dbd.now c.args.volume.now c.behind.new.volume c.in_ok-address.ensures.read c.requires.of

pub step-requires-clause-there : goal.step-requires-clause-there
step-requires-clause-there g c =
    let d = c.args.dbd.now in
    let u = c.args.volume.now in
    links-kept d (λ (m : Links). 0 < c.in_ok-address.address → IsSegment m c.in_ok-address.address) u c.behind.new.volume c.in_ok-address.ensures.read
    (λ sound.
    let m : Links = links_of d.types u in
    let H = held d u (c.requires.of sound).fit (c.requires.of sound) (c.requires.holds sound) in
    subst (MayBe m) (sym (c.in_ok-address.ensures.value sound ∙ ap (behind_span d.types m) c.addresses.ensures.value)) (span-may d.types m H.linked.typed refl c.args.path.now (c.requires.there sound)))

pub returns-clause-read : goal.returns-clause-read
returns-clause-read g c = reads-join c.step.result c.in_ok-address.ensures.read c.step.ensures.read
