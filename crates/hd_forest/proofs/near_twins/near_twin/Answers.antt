use Rattle.std.proofs.Common.{◌≡◌, ◌≢◌, ℕ, ◌<◌, true, refl, subst, arith, inl, inr}
use Rattle.std.proofs.lemmas.Bool.{cases_lt}
use Rattle.hd_volume.proofs.CallSteps.{if-ok, reads-join}
use Rattle.hd_links.specs.Links.{Links, segment_at}
use Rattle.hd_links.specs.Pointers.{IsInChain}
use Rattle.hd_image.specs.Records.{links_of}
use Rattle.hd_forest.specs.Twins.{is_key_below, MayBegin}
use Rattle.hd_forest.proofs.Held.{held}
use Rattle.hd_forest.proofs.Reading.{after-read, sound-before, volume-kept, links-kept}
use Rattle.hd_forest.proofs.Tips.{twins-there}
use Rattle.hd_forest.proofs.near_twins.near_twin.Goals as goal

-- a number that is not 0
some : (n : ℕ) → n ≢ 0 → 0 < n
some n ne = elim (cases_lt 0 n) [ inl w ↦ w | inr w ↦ absurd (ne (let z : n ≡ 0 = omega arith in z)) ]

pub is_nearer_last-requires-clause-last : goal.is_nearer_last-requires-clause-last
is_nearer_last-requires-clause-last g c sound =
    let d = c.args.dbd.now in
    let u = c.args.volume.now in
    let of = c.requires.of sound in
    let C = c.requires.last sound (some c.args.last c.if-last-eq0.false) in
    (twins-there d.types (links_of d.types u) (held d u of.fit of (c.requires.holds sound)).linked.typed ((links_of d.types u).code c.args.first) C.0 c.args.first c.args.last (c.requires.there sound) refl C.1).0

pub twin_back-requires-clause-of : goal.twin_back-requires-clause-of
twin_back-requires-clause-of g c = volume-kept c.args.dbd.now c.args.volume.now c.is_nearer_last.new.volume c.in_ok-is_nearer_last.ensures.read c.requires.of

pub twin_back-requires-clause-holds : goal.twin_back-requires-clause-holds
twin_back-requires-clause-holds g c now =
    let u = c.args.volume.now in
    let w = c.is_nearer_last.new.volume in
    let sound = sound-before u w c.in_ok-is_nearer_last.ensures.read now in
    (after-read c.args.dbd.now u w c.in_ok-is_nearer_last.ensures.read sound).forest (c.requires.holds sound)

pub twin_back-requires-clause-below : goal.twin_back-requires-clause-below
twin_back-requires-clause-below g c =
    links-kept c.args.dbd.now (λ m. is_key_below c.args.dbd.now.types c.args.key.now (segment_at m c.args.first) ≡ true) c.args.volume.now c.is_nearer_last.new.volume c.in_ok-is_nearer_last.ensures.read
    (λ sound. c.in_ok-is_nearer_last.ensures.below sound c.if-not-branch.false)

pub twin_back-requires-clause-last : goal.twin_back-requires-clause-last
twin_back-requires-clause-last g c =
    links-kept c.args.dbd.now (λ m. IsInChain m c.args.first c.args.last) c.args.volume.now c.is_nearer_last.new.volume c.in_ok-is_nearer_last.ensures.read
    (λ sound. c.requires.last sound (some c.args.last c.if-last-eq0.false))

pub returns-clause-read : goal.returns-clause-read
returns-clause-read g c = reads-join c.twin_back.result c.in_ok-is_nearer_last.ensures.read c.twin_back.ensures.read

pub returns-clause-value : goal.returns-clause-value
returns-clause-value g c = if-ok c.twin_back.result c.twin_back.ensures.value
    (λ r value sound.
    let d = c.args.dbd.now in
    let same = after-read d c.args.volume.now c.is_nearer_last.new.volume c.in_ok-is_nearer_last.ensures.read sound in
    subst (λ (k : Links). MayBegin d.types k c.args.key.now c.args.first r) same.links (value same.sound))
