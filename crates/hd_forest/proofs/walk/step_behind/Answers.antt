use Rattle.std.proofs.Common.{sym, ap, subst, ◌<◌, ◌∙◌, refl}
use Rattle.std.proofs.lemmas.Result.{on_ok_weaker}
use Rattle.hd_links.specs.Links.{Links, IsSegment}
use Rattle.hd_image.specs.Records.{links_of}
use Rattle.hd_forest.specs.Walks.{tip, moved}
use Rattle.hd_volume.proofs.CallSteps.{reads-join}
use Rattle.hd_forest.proofs.Reading.{after-read, links-kept, volume-kept}
use Rattle.hd_forest.proofs.Held.{held}
use Rattle.hd_forest.proofs.Climbs.{MayBe, span-may, next-over}
use Rattle.hd_forest.proofs.walk.step_behind.Goals as goal

pub behind_twins-requires-clause-last : goal.behind_twins-requires-clause-last
behind_twins-requires-clause-last g c sound = (c.requires.last sound).code

pub behind_twins-requires-clause-twin : goal.behind_twins-requires-clause-twin
behind_twins-requires-clause-twin g c sound = sym (c.requires.last sound).twin

pub step-requires-clause-of : goal.step-requires-clause-of
step-requires-clause-of g c = volume-kept c.args.dbd.now c.args.volume.now c.behind_twins.new.volume c.in_ok-address.ensures.read c.requires.of

pub step-requires-clause-there : goal.step-requires-clause-there
step-requires-clause-there g c =
    let d = c.args.dbd.now in
    let u = c.args.volume.now in
    links-kept d (λ (m : Links). 0 < c.in_ok-address.address → IsSegment m c.in_ok-address.address) u c.behind_twins.new.volume c.in_ok-address.ensures.read
    (λ sound.
    let m : Links = links_of d.types u in
    let H = held d u (c.requires.of sound).fit (c.requires.of sound) (c.requires.holds sound) in
    subst (MayBe m) (sym (c.in_ok-address.ensures.value sound)) (span-may d.types m H.linked.typed refl c.args.path.now (c.requires.there sound)))

pub returns-clause-read : goal.returns-clause-read
returns-clause-read g c = reads-join c.step.result c.in_ok-address.ensures.read c.step.ensures.read

pub returns-clause-value : goal.returns-clause-value
returns-clause-value g c = on_ok_weaker c.step.result
    (λ value sound.
    let d = c.args.dbd.now in
    let u = c.args.volume.now in
    let m : Links = links_of d.types u in
    let path = c.args.path.now in
    let same = after-read d u c.behind_twins.new.volume c.in_ok-address.ensures.read sound in
    value same.sound
    ∙ ap (λ (k : Links). moved d.types k path c.in_ok-address.address) same.links
    ∙ ap (moved d.types m path) (c.in_ok-address.ensures.value sound ∙ next-over d.types m path (tip path) 0 refl (c.requires.last sound).below refl))
    c.step.ensures.value
