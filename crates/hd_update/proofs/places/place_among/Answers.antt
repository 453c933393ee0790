use Rattle.std.proofs.Common.{◌≡◌, ◌-◌, ◌+◌, ◌<◌, ℕ, suc, length, IsTrue, Ok, Some, None, ap, sym, subst, ◌∙◌, arith}
use Rattle.hd_dbd.specs.Hierarchy.{Database}
use Rattle.hd_dbd.specs.Segment.{Segment}
use Rattle.hd_volume.specs.Volumes.{VolumeState}
use Rattle.hd_volume.proofs.CallSteps.{if-ok, read-ok, reads-join}
use Rattle.hd_links.specs.Links.{Links, IsSegment}
use Rattle.hd_image.specs.Records.{links_of}
use Rattle.hd_forest.specs.Twins.{IsTwinWithin, IsBehind}
use Rattle.hd_forest.proofs.Chains.{nearer, none-left, passed}
use Rattle.hd_forest.proofs.Held.{held}
use Rattle.hd_forest.proofs.Reading.{after-read, volume-kept, links-kept}
use Rattle.hd_forest.proofs.Tips.{end-within}
use Rattle.hd_update.specs.Places.{side_at, HasParent}
use Rattle.hd_update.proofs.PlaceChains.{reached, chain_typed, keyless, some_of, within_behind, below_behind}
use Rattle.hd_update.proofs.places.place_among.Goals as goal

pub place_without_key-requires-clause-without : goal.place_without_key-requires-clause-without
place_without_key-requires-clause-without g c = keyless c.args.dbd.now.types c.args.code (sym c.twin_places.ensures ∙ c.in_default.is)

pub returns-in_default-clause-value : goal.returns-in_default-clause-value
returns-in_default-clause-value g c = if-ok c.place_without_key.result c.place_without_key.ensures.value (λ r value. value c.args.bytes.now)

pub loop-init : goal.loop-init
loop-init g c =
    let d = c.args.dbd.now in
    let u = c.args.volume.now in
    let m : Links = links_of d.types u in
    let new : Segment = record { code = c.args.code; bytes = c.args.bytes.now } in
    let around = c.in_ok-around.around in
    record {
      read = read-ok 0 c.in_ok-around.ensures.read;
      left = λ sound.
          (let P = c.requires.parent sound in
          let H = held d u P.volume.fit P.volume P.forest in
          let most : c.length-most.result ≡ length u.image = c.length-most.ensures sound in
          subst (λ n. IsTwinWithin m n around.from 0) (let e : length u.image ≡ c.length-most.result - 0 = omega arith in e)
          (within_behind m (length u.image) (m.first_child c.args.parent c.args.code) around.before around.from
          (end-within d.types H.ordered (length u.image) m H.graph H.linked c.args.parent c.args.code P.here P.typed) (c.in_ok-around.ensures.value sound).behind));
      chain = λ sound. (c.in_ok-around.ensures.value sound).behind;
      side = λ sound some. below_behind d.types m c.args.last new around.before ((c.in_ok-around.ensures.value sound).below some);
    }

pub around_key-requires-clause-places : goal.around_key-requires-clause-places
around_key-requires-clause-places g c = sym c.twin_places.ensures ∙ c.in-Some.is

pub returns-then-twin-eq0-clause-value : goal.returns-then-twin-eq0-clause-value
returns-then-twin-eq0-clause-value g c sound =
    let m : Links = links_of c.args.dbd.now.types c.args.volume.now in
    let inv = c.loop.invariant in (
      0,
      record {
        chain = subst (IsBehind m (m.first_child c.args.parent c.args.code) c.loop.before) c.if-twin-eq0.true (inv.chain sound);
        behind = inv.side sound;
        before = λ none. absurd (omega arith);
      },
    )

pub returns-clause-value : goal.returns-clause-value
returns-clause-value g c sound =
    let m : Links = links_of c.args.dbd.now.types c.args.volume.now in
    let inv = c.loop.invariant in
    let over = c.loop-test.false in
    let none : c.length-most.result - c.loop.counter ≡ 0 = omega arith in
    let end : c.loop.twin ≡ 0 = none-left m c.loop.twin 0 (subst (λ n. IsTwinWithin m n c.loop.twin 0) none (inv.left sound)) in (
      0,
      record {
        chain = subst (IsBehind m (m.first_child c.args.parent c.args.code) c.loop.before) end (inv.chain sound);
        behind = inv.side sound;
        before = λ nothing. absurd (omega arith);
      },
    )

-- the twin that comes next is a segment of the type
twin_there : (d : Database) (v : VolumeState) (h code before twin : ℕ) → HasParent d v h code → (twin ≡ 0 → ⊥) → (sound : IsTrue v.is_sound)
    → IsBehind (links_of d.types v) ((links_of d.types v).first_child h code) before twin → IsSegment (links_of d.types v) twin × ((links_of d.types v).code twin ≡ code)
twin_there d v h code before twin has ne sound chain =
    let m : Links = links_of d.types v in chain_typed d v h code (has sound) twin (reached m (m.first_child h code) before twin chain (some_of twin ne))

pub meet_twin-requires-clause-of : goal.meet_twin-requires-clause-of
meet_twin-requires-clause-of g c = volume-kept c.args.dbd.now c.args.volume.now c.loop.volume c.loop.invariant.read (λ sound. (c.requires.parent sound).volume)

pub meet_twin-requires-clause-there : goal.meet_twin-requires-clause-there
meet_twin-requires-clause-there g c =
    let d = c.args.dbd.now in
    let u = c.args.volume.now in
    links-kept d (λ m. IsSegment m c.loop.twin) u c.loop.volume c.loop.invariant.read
    (λ sound. (twin_there d u c.args.parent c.args.code c.loop.before c.loop.twin c.requires.parent c.if-twin-eq0.false sound (c.loop.invariant.chain sound)).0)

pub meet_twin-requires-clause-typed : goal.meet_twin-requires-clause-typed
meet_twin-requires-clause-typed g c =
    let d = c.args.dbd.now in
    let u = c.args.volume.now in
    links-kept d (λ m. m.code c.loop.twin ≡ c.args.code) u c.loop.volume c.loop.invariant.read
    (λ sound. (twin_there d u c.args.parent c.args.code c.loop.before c.loop.twin c.requires.parent c.if-twin-eq0.false sound (c.loop.invariant.chain sound)).1)

pub returns-in-Before-clause-read : goal.returns-in-Before-clause-read
returns-in-Before-clause-read g c = reads-join (Ok (Some c.loop.before)) c.loop.invariant.read (read-ok (Some c.loop.before) c.in_ok-met.ensures.read)

pub returns-in-Before-clause-value : goal.returns-in-Before-clause-value
returns-in-Before-clause-value g c sound =
    let d = c.args.dbd.now in
    let u = c.args.volume.now in
    let m : Links = links_of d.types u in
    let new : Segment = record { code = c.args.code; bytes = c.args.bytes.now } in
    let inv = c.loop.invariant in
    let same = after-read d u c.loop.volume inv.read sound in (
      c.loop.twin,
      record {
        chain = inv.chain sound;
        behind = inv.side sound;
        before = λ some. sym (c.in_ok-met.ensures.side same.sound ∙ ap (λ (k : Links). side_at d.types k c.args.last new c.loop.twin) same.links) ∙ c.in-Before.is;
      },
    )

pub returns-in-Taken-clause-read : goal.returns-in-Taken-clause-read
returns-in-Taken-clause-read g c = reads-join (Ok None) c.loop.invariant.read (read-ok None c.in_ok-met.ensures.read)

pub returns-in-Taken-clause-value : goal.returns-in-Taken-clause-value
returns-in-Taken-clause-value g c sound =
    let d = c.args.dbd.now in
    let u = c.args.volume.now in
    let m : Links = links_of d.types u in
    let new : Segment = record { code = c.args.code; bytes = c.args.bytes.now } in
    let inv = c.loop.invariant in
    let same = after-read d u c.loop.volume inv.read sound in (
      c.loop.twin,
      reached m (m.first_child c.args.parent c.args.code) c.loop.before c.loop.twin (inv.chain sound) (some_of c.loop.twin c.if-twin-eq0.false),
      sym (c.in_ok-met.ensures.side same.sound ∙ ap (λ (k : Links). side_at d.types k c.args.last new c.loop.twin) same.links) ∙ c.in-Taken.is,
    )

pub meet_twin-requires-clause-places : goal.meet_twin-requires-clause-places
meet_twin-requires-clause-places g c = sym c.twin_places.ensures ∙ c.in-Some.is

nearer-now : (m : Links) (most counter p a : ℕ) → counter < most → IsTwinWithin m (most - counter) p a → IsTwinWithin m (suc (most - (counter + 1))) p a
nearer-now m most counter p a low w = subst (λ n. IsTwinWithin m n p a) (omega arith) w

pub loop-preserved : goal.loop-preserved
loop-preserved g c =
    let d = c.args.dbd.now in
    let u = c.args.volume.now in
    let m : Links = links_of d.types u in
    let new : Segment = record { code = c.args.code; bytes = c.args.bytes.now } in
    let inv = c.loop.invariant in
    let low : c.loop.counter < c.length-most.result = c.loop-test.true in
    let next = λ (sound : IsTrue u.is_sound).
    (let same = after-read d u c.loop.volume inv.read sound in
    let e : c.in_ok-met.met.next ≡ m.forward c.loop.twin = c.in_ok-met.ensures.next same.sound ∙ ap (λ (k : Links). k.forward c.loop.twin) same.links in e) in
    record {
      read = reads-join (Ok 0) inv.read (read-ok 0 c.in_ok-met.ensures.read);
      left = λ sound. subst (λ x. IsTwinWithin m (c.length-most.result - (c.loop.counter + 1)) x 0) (sym (next sound))
          (nearer m (c.length-most.result - (c.loop.counter + 1)) c.loop.twin 0 (nearer-now m c.length-most.result c.loop.counter c.loop.twin 0 low (inv.left sound)) c.if-twin-eq0.false).next;
      chain = λ sound. subst (IsBehind m (m.first_child c.args.parent c.args.code) c.loop.twin) (sym (next sound))
          (passed m (m.first_child c.args.parent c.args.code) c.loop.before c.loop.twin (inv.chain sound)
          (twin_there d u c.args.parent c.args.code c.loop.before c.loop.twin c.requires.parent c.if-twin-eq0.false sound (inv.chain sound)).0);
      side = λ sound some.
          (let same = after-read d u c.loop.volume inv.read sound in
          sym (c.in_ok-met.ensures.side same.sound ∙ ap (λ (k : Links). side_at d.types k c.args.last new c.loop.twin) same.links) ∙ c.in-Behind.is);
    }
