use Rattle.std.proofs.Common.{◌≡◌, Result, Ok, Err, Some, IfOk, ap, subst, ◌∙◌}
use Rattle.hd_dbd.specs.declared.answer.Refused.{Refused}
use Rattle.hd_volume.proofs.CallSteps.{if-ok}
use Rattle.hd_links.specs.Links.{Links, IsSegment}
use Rattle.hd_image.specs.Records.{links_of}
use Rattle.hd_forest.specs.Twins.{IsTwinFrom, IsLastBelow, IsOfKey}
use Rattle.hd_forest.specs.TwinPlaces.{twin_places}
use Rattle.hd_forest.proofs.Held.{held}
use Rattle.hd_forest.proofs.Reading.{after-read, sound-before, volume-kept, links-kept}
use Rattle.hd_forest.proofs.NearTwins.{begun-there, begun-from, begun-below}
use Rattle.hd_forest.proofs.near_twins.twins_around_between.Goals as goal

-- what holds of an answer, by two things that hold of it
if-both : {A : Type 0} {P Q R : A → Type 0} (r : Result A Refused) → IfOk r P → IfOk r Q → ((x : A) → P x → Q x → R x) → IfOk r R
if-both (Ok x) h k f = f x h k
if-both (Err e) h k f = tt

pub around_by_number-requires-clause-of : goal.around_by_number-requires-clause-of
around_by_number-requires-clause-of g c = volume-kept c.args.dbd.now c.args.volume.now c.near_twin.new.volume c.in_ok-twin.ensures.read c.requires.of

pub around_by_number-requires-clause-holds : goal.around_by_number-requires-clause-holds
around_by_number-requires-clause-holds g c now =
    let u = c.args.volume.now in
    let sound = sound-before u c.near_twin.new.volume c.in_ok-twin.ensures.read now in
    (after-read c.args.dbd.now u c.near_twin.new.volume c.in_ok-twin.ensures.read sound).forest (c.requires.holds sound)

pub around_by_number-requires-clause-there : goal.around_by_number-requires-clause-there
around_by_number-requires-clause-there g c =
    let d = c.args.dbd.now in
    let u = c.args.volume.now in
    links-kept d (λ m. IsSegment m c.in_ok-twin.twin) u c.near_twin.new.volume c.in_ok-twin.ensures.read
    (λ sound.
    (let of = c.requires.of sound in
    let L = (held d u of.fit of (c.requires.holds sound)).linked in
    (begun-there d.types (links_of d.types u) L.typed L.keys c.args.key.now c.args.first c.in_ok-twin.twin (c.requires.there sound) (c.in_ok-twin.ensures.value sound)).0))

pub around_by_number-requires-clause-places : goal.around_by_number-requires-clause-places
around_by_number-requires-clause-places g c =
    let d = c.args.dbd.now in
    let u = c.args.volume.now in
    links-kept d (λ m. twin_places d.types (m.code c.in_ok-twin.twin) ≡ Some c.args.places) u c.near_twin.new.volume c.in_ok-twin.ensures.read
    (λ sound.
    (let of = c.requires.of sound in
    let L = (held d u of.fit of (c.requires.holds sound)).linked in
    ap (twin_places d.types) (begun-there d.types (links_of d.types u) L.typed L.keys c.args.key.now c.args.first c.in_ok-twin.twin (c.requires.there sound) (c.in_ok-twin.ensures.value sound)).1
    ∙ c.requires.places sound))

pub returns-clause-from : goal.returns-clause-from
returns-clause-from g c = if-ok c.around_by_number.result c.around_by_number.ensures.from
    (λ r value sound.
    let d = c.args.dbd.now in
    let u = c.args.volume.now in
    let of = c.requires.of sound in
    let L = (held d u of.fit of (c.requires.holds sound)).linked in
    let same = after-read d u c.near_twin.new.volume c.in_ok-twin.ensures.read sound in
    begun-from d.types (links_of d.types u) L.typed L.keys c.args.key.now c.args.first c.in_ok-twin.twin r.from (c.requires.there sound) (c.in_ok-twin.ensures.value sound)
    (subst (λ (k : Links). IsTwinFrom d.types k c.args.key.now c.in_ok-twin.twin r.from) same.links (value same.sound)))

pub returns-clause-before : goal.returns-clause-before
returns-clause-before g c = if-both c.around_by_number.result c.around_by_number.ensures.from c.around_by_number.ensures.before
    (λ r from value sound.
    let d = c.args.dbd.now in
    let u = c.args.volume.now in
    let of = c.requires.of sound in
    let L = (held d u of.fit of (c.requires.holds sound)).linked in
    let same = after-read d u c.near_twin.new.volume c.in_ok-twin.ensures.read sound in
    begun-below d.types (links_of d.types u) L.typed L.keys c.args.key.now c.args.first c.in_ok-twin.twin r.before r.from (c.requires.there sound) (c.in_ok-twin.ensures.value sound)
    (subst (λ (k : Links). IsTwinFrom d.types k c.args.key.now c.in_ok-twin.twin r.from) same.links (from same.sound))
    (subst (λ (k : Links). IsLastBelow d.types k c.args.key.now c.in_ok-twin.twin r.before r.from) same.links (value same.sound)))

pub returns-clause-equal : goal.returns-clause-equal
returns-clause-equal g c = if-ok c.around_by_number.result c.around_by_number.ensures.equal
    (λ r value sound equal.
    let d = c.args.dbd.now in
    let same = after-read d c.args.volume.now c.near_twin.new.volume c.in_ok-twin.ensures.read sound in
    subst (λ (k : Links). IsOfKey d.types k c.args.key.now r.from) same.links (value same.sound equal))
