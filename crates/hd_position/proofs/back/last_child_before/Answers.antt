use Rattle.std.proofs.Common.{◌≡◌, true, length, subst}
use Rattle.hd_links.specs.Links.{Links, is_child_type}
use Rattle.hd_image.specs.Records.{links_of}
use Rattle.hd_forest.specs.Twins.{IsBehind}
use Rattle.hd_forest.proofs.Reading.{after-read, sound-before, links-kept, volume-kept}
use Rattle.hd_forest.proofs.Held.{held}
use Rattle.hd_volume.proofs.CallSteps.{if-ok}
use Rattle.hd_position.proofs.Siblings.{last_none, last_typed, last_found}
use Rattle.hd_position.proofs.back.last_child_before.Goals as goal

pub returns-then-code-eq0-clause-value : goal.returns-then-code-eq0-clause-value
returns-then-code-eq0-clause-value g c sound =
    let d = c.args.dbd.now in
    let u = c.args.volume.now in
    let H = held d u (c.requires.of sound).fit (c.requires.of sound) (c.requires.holds sound) in
    last_none d.types (length u.image) (links_of d.types u) H.graph H.linked c.args.address c.args.end c.in_ok-code.code (c.in_ok-code.ensures.value sound) c.if-code-eq0.true

pub last_twin-requires-clause-of : goal.last_twin-requires-clause-of
last_twin-requires-clause-of g c = volume-kept c.args.dbd.now c.args.volume.now c.last_child_type.new.volume c.in_ok-code.ensures.read c.requires.of

pub last_twin-requires-clause-holds : goal.last_twin-requires-clause-holds
last_twin-requires-clause-holds g c now =
    let d = c.args.dbd.now in
    let u = c.args.volume.now in
    let sound = sound-before u c.last_child_type.new.volume c.in_ok-code.ensures.read now in
    (after-read d u c.last_child_type.new.volume c.in_ok-code.ensures.read sound).forest (c.requires.holds sound)

pub last_twin-requires-clause-there : goal.last_twin-requires-clause-there
last_twin-requires-clause-there g c =
    links-kept c.args.dbd.now (λ (m : Links). m.here c.args.address ≡ true) c.args.volume.now c.last_child_type.new.volume c.in_ok-code.ensures.read (λ sound. (c.requires.there sound).here)

pub last_twin-requires-clause-typed : goal.last_twin-requires-clause-typed
last_twin-requires-clause-typed g c =
    links-kept c.args.dbd.now (λ (m : Links). is_child_type c.args.dbd.now.types (m.code c.args.address) c.in_ok-code.code ≡ true) c.args.volume.now c.last_child_type.new.volume c.in_ok-code.ensures.read (λ sound.
    let d = c.args.dbd.now in
    let u = c.args.volume.now in
    let H = held d u (c.requires.of sound).fit (c.requires.of sound) (c.requires.holds sound) in
    last_typed d.types (length u.image) (links_of d.types u) H.graph H.linked c.args.address c.args.end c.in_ok-code.code (c.in_ok-code.ensures.value sound) c.if-code-eq0.false)

pub returns-clause-value : goal.returns-clause-value
returns-clause-value g c = if-ok c.last_twin.result c.last_twin.ensures.value
    (λ r value sound.
    let d = c.args.dbd.now in
    let u = c.args.volume.now in
    let same = after-read d u c.last_child_type.new.volume c.in_ok-code.ensures.read sound in
    let H = held d u (c.requires.of sound).fit (c.requires.of sound) (c.requires.holds sound) in
    last_found d.types (length u.image) (links_of d.types u) H.graph H.linked c.args.address c.args.end c.in_ok-code.code r (c.requires.there sound).here (c.in_ok-code.ensures.value sound) c.if-code-eq0.false
    (subst (λ (k : Links). IsBehind k (k.first_child c.args.address c.in_ok-code.code) r 0) same.links (value same.sound)))
