use Rattle.std.proofs.Common.{length, sym, subst, ◌∙◌}
use Rattle.hd_links.specs.Links.{Links}
use Rattle.hd_image.specs.Records.{links_of}
use Rattle.hd_forest.specs.Twins.{IsBehind}
use Rattle.hd_volume.proofs.CallSteps.{if-ok}
use Rattle.hd_forest.proofs.Reading.{after-read, sound-before, volume-kept}
use Rattle.hd_forest.proofs.Held.{held}
use Rattle.hd_forest.proofs.Tips.{end-within, last-kept}
use Rattle.hd_forest.proofs.read.last_twin.Goals as goal

pub returns-then-keeps_last_child-clause-value : goal.returns-then-keeps_last_child-clause-value
returns-then-keeps_last_child-clause-value g c = if-ok c.last_child.result c.last_child.ensures.value
    (λ r value sound.
    let d = c.args.dbd.now in
    let u = c.args.volume.now in
    let m : Links = links_of d.types u in
    let H = held d u (c.requires.of sound).fit (c.requires.of sound) (c.requires.holds sound) in
    subst (λ x. IsBehind m (m.first_child c.args.parent c.args.code) x 0) (sym (value sound))
    (last-kept d.types H.ordered (length u.image) m H.graph H.linked c.args.parent c.args.code (c.requires.there sound) (c.requires.typed sound) (sym c.keeps_last_child.ensures ∙ c.if-keeps_last_child.true)))

pub twin_before-requires-clause-of : goal.twin_before-requires-clause-of
twin_before-requires-clause-of g c = volume-kept c.args.dbd.now c.args.volume.now c.first_child.new.volume c.in_ok-first.ensures.read c.requires.of

pub twin_before-requires-clause-there : goal.twin_before-requires-clause-there
twin_before-requires-clause-there g c now =
    let d = c.args.dbd.now in
    let u = c.args.volume.now in
    let w = c.first_child.new.volume in
    let m : Links = links_of d.types u in
    let sound = sound-before u w c.in_ok-first.ensures.read now in
    let same = after-read d u w c.in_ok-first.ensures.read sound in
    let H = held d u (c.requires.of sound).fit (c.requires.of sound) (c.requires.holds sound) in
    rw (same.links, same.image, c.in_ok-first.ensures.value sound) (end-within d.types H.ordered (length u.image) m H.graph H.linked c.args.parent c.args.code (c.requires.there sound) (c.requires.typed sound))

pub returns-clause-value : goal.returns-clause-value
returns-clause-value g c = if-ok c.twin_before.result c.twin_before.ensures.value
    (λ r value sound.
    let d = c.args.dbd.now in
    let u = c.args.volume.now in
    let w = c.first_child.new.volume in
    let same = after-read d u w c.in_ok-first.ensures.read sound in
    subst (λ x. IsBehind (links_of d.types u) x r 0) (c.in_ok-first.ensures.value sound) (subst (λ (k : Links). IsBehind k c.in_ok-first.first r 0) same.links (value same.sound)))
