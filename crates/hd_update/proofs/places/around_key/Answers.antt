use Rattle.std.proofs.Common.{◌≡◌, ℕ, ◌<◌, IsTrue, ap, sym, ◌∙◌, subst, arith, inl, refl}
use Rattle.hd_dbd.specs.Hierarchy.{Database}
use Rattle.hd_dbd.specs.Segment.{Segment}
use Rattle.hd_dbd.specs.Rows.{key_of}
use Rattle.hd_volume.specs.Volumes.{VolumeState}
use Rattle.hd_volume.proofs.CallSteps.{if-ok}
use Rattle.hd_links.specs.Links.{Links, IsSegment}
use Rattle.hd_image.specs.Records.{links_of}
use Rattle.hd_forest.specs.Twins.{IsLastBelow}
use Rattle.hd_forest.specs.TwinPlaces.{twin_places}
use Rattle.hd_forest.proofs.Held.{held}
use Rattle.hd_update.specs.Places.{HasParent}
use Rattle.hd_update.proofs.PlaceChains.{some_of, last_of_ends}
use Rattle.hd_update.proofs.places.around_key.Goals as goal

-- the first twin below a parent is a segment of the type
first_there : (d : Database) (v : VolumeState) (h code first : ℕ) → HasParent d v h code → (first ≡ 0 → ⊥) → (sound : IsTrue v.is_sound) → first ≡ (links_of d.types v).first_child h code
    → IsSegment (links_of d.types v) first × ((links_of d.types v).code first ≡ code)
first_there d v h code first has ne sound is =
    let m : Links = links_of d.types v in
    let P = has sound in
    let some : 0 < m.first_child h code = subst (λ x. 0 < x) is (some_of first ne) in
    let T = (held d v P.volume.fit P.volume P.forest).linked.typed.first h code P.here P.typed some in
    subst (λ x. IsSegment m x × (m.code x ≡ code)) (sym is) (record { some = some; here = T.0 }, T.1)

pub returns-then-ends-eq0-clause-value : goal.returns-then-ends-eq0-clause-value
returns-then-ends-eq0-clause-value g c sound = record {
  behind = inl (refl, sym (c.requires.ends sound).0 ∙ c.if-ends-eq0.true);
  below = λ some. absurd (omega arith);
}

pub twins_around_between-requires-clause-of : goal.twins_around_between-requires-clause-of
twins_around_between-requires-clause-of g c sound = (c.requires.parent sound).volume

pub twins_around_between-requires-clause-holds : goal.twins_around_between-requires-clause-holds
twins_around_between-requires-clause-holds g c sound = (c.requires.parent sound).forest

pub twins_around_between-requires-clause-there : goal.twins_around_between-requires-clause-there
twins_around_between-requires-clause-there g c sound =
    (first_there c.args.dbd.now c.args.volume.now c.args.parent c.args.code c.args.ends.first c.requires.parent c.if-ends-eq0.false sound (c.requires.ends sound).0).0

pub twins_around_between-requires-clause-last : goal.twins_around_between-requires-clause-last
twins_around_between-requires-clause-last g c sound some = (last_of_ends c.args.dbd.now c.args.volume.now c.args.parent c.args.code c.args.ends c.requires.parent c.requires.ends some sound).chain

pub twins_around_between-requires-clause-places : goal.twins_around_between-requires-clause-places
twins_around_between-requires-clause-places g c sound =
    ap (twin_places c.args.dbd.now.types)
    (first_there c.args.dbd.now c.args.volume.now c.args.parent c.args.code c.args.ends.first c.requires.parent c.if-ends-eq0.false sound (c.requires.ends sound).0).1
    ∙ c.requires.places

pub returns-clause-value : goal.returns-clause-value
returns-clause-value g c = if-ok c.twins_around_between.result c.twins_around_between.ensures.before
    (λ r value sound.
    let d = c.args.dbd.now in
    let m : Links = links_of d.types c.args.volume.now in
    let row : Segment = record { code = c.args.code; bytes = c.args.bytes.now } in
    subst (λ p. IsLastBelow d.types m (key_of d.types row) p r.before r.from) (c.requires.ends sound).0
    (subst (λ key. IsLastBelow d.types m key c.args.ends.first r.before r.from) c.key_of.ensures.value (value sound)))
