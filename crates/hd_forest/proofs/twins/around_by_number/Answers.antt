use Rattle.std.proofs.Common.{sym, ◌∙◌, ◌≡◌, ℕ, ◌+◌, ◌<◌, ◌≤◌, length, IsTrue, Ok, subst, arith, inl, inr}
use Rattle.std.proofs.lemmas.Bool.{cases_lt}
use Rattle.hd_volume.proofs.CallSteps.{read-ok, read-none, reads-join}
use Rattle.hd_links.specs.Steps.{rows_of}
use Rattle.hd_image.specs.Records.{links_of}
use Rattle.hd_image.proofs.RowCounts.{few-rows}
use Rattle.hd_forest.specs.declared.twins.TwinsAround.{TwinsAround}
use Rattle.hd_forest.specs.Twins.{IsTwinFrom, IsLastBelow}
use Rattle.hd_forest.proofs.Reading.{after-read, sound-before}
use Rattle.hd_forest.proofs.BlockTwins.{HasCome, comes-none, block-there, walked-in, around-all, around-to, block-kept, walk-before, equal-before}
use Rattle.hd_forest.proofs.twins.around_by_number.Given.{Over}
use Rattle.hd_forest.proofs.twins.around_by_number.Goals as goal

-- a number that is not 0
some : (n : ℕ) → (n ≡ 0 → ⊥) → 0 < n
some n ne = elim (cases_lt 0 n) [ inl w ↦ w | inr w ↦ absurd (ne (let z : n ≡ 0 = omega arith in z)) ]

pub loop-count-init : goal.loop-count-init
loop-count-init g c = record {
  read = read-none c.args.volume.now 0;
  come = λ f sound holds.
      (let of = c.requires.of sound in
      (0, omega arith, comes-none c.args.dbd.now c.args.volume.now f of.fit of holds c.args.places c.args.key.now c.args.address (c.requires.places sound) (c.requires.there sound)));
}

-- all were passed over
all : (g : Over) (c : goal.Then-twin-eq0 g) (sound : IsTrue c.args.volume.now.is_sound)
    → IsTwinFrom c.args.dbd.now.types (links_of c.args.dbd.now.types c.args.volume.now) c.args.key.now c.args.address 0
    × IsLastBelow c.args.dbd.now.types (links_of c.args.dbd.now.types c.args.volume.now) c.args.key.now c.args.address c.loop-count.before 0
all g c sound =
    let d = c.args.dbd.now in
    let u = c.args.volume.now in
    let of = c.requires.of sound in
    let h = c.requires.holds sound in
    let C = c.loop-count.invariant.come h.0 sound h.1 in
    around-all d u h.0 of.fit of h.1 c.args.places c.args.key.now c.args.address (c.requires.places sound) C.0 c.loop-count.before
    (subst (HasCome d.types (links_of d.types u) h.0 c.args.key.now c.args.address C.0 c.loop-count.before) c.if-twin-eq0.true C.2)

pub returns-then-twin-eq0-clause-from : goal.returns-then-twin-eq0-clause-from
returns-then-twin-eq0-clause-from g c sound = (all g c sound).0

pub returns-then-twin-eq0-clause-before : goal.returns-then-twin-eq0-clause-before
returns-then-twin-eq0-clause-before g c sound = (all g c sound).1

pub pass_block-requires-clause-there : goal.pass_block-requires-clause-there
pass_block-requires-clause-there g c now =
    let d = c.args.dbd.now in
    let u = c.args.volume.now in
    let sound = sound-before u c.loop-count.volume c.loop-count.invariant.read now in
    let of = c.requires.of sound in
    let h = c.requires.holds sound in
    let C = c.loop-count.invariant.come h.0 sound h.1 in
    block-kept u c.loop-count.volume c.loop-count.twin c.loop-count.invariant.read now
    (block-there d u h.0 of.fit of h.1 c.args.places c.args.key.now c.args.address (c.requires.places sound) C.0 c.loop-count.before c.loop-count.twin C.2
    (some c.loop-count.twin c.if-twin-eq0.false)).there

pub returns-then-walk-clause-read : goal.returns-then-walk-clause-read
returns-then-walk-clause-read g c =
    let around : TwinsAround = record { before = c.in_ok-walk.walk.before; from = c.in_ok-walk.walk.twin; is_equal = c.in_ok-walk.is_equal } in
    reads-join (Ok around) c.loop-count.invariant.read (read-ok around c.in_ok-walk.ensures.read)

-- the first whose key is not below was found
found : (g : Over) (c : goal.Then-walk g) (sound : IsTrue c.args.volume.now.is_sound)
    → IsTwinFrom c.args.dbd.now.types (links_of c.args.dbd.now.types c.args.volume.now) c.args.key.now c.args.address c.in_ok-walk.walk.twin
    × IsLastBelow c.args.dbd.now.types (links_of c.args.dbd.now.types c.args.volume.now) c.args.key.now c.args.address c.in_ok-walk.walk.before c.in_ok-walk.walk.twin
found g c sound =
    let d = c.args.dbd.now in
    let u = c.args.volume.now in
    let of = c.requires.of sound in
    let h = c.requires.holds sound in
    let C = c.loop-count.invariant.come h.0 sound h.1 in
    let same = after-read d u c.loop-count.volume c.loop-count.invariant.read sound in
    let W = walked-in d u h.0 of.fit of h.1 c.args.places c.args.key.now c.args.address (c.requires.places sound) C.0 c.loop-count.before c.loop-count.twin c.in_ok-walk.walk C.2
    (some c.loop-count.twin c.if-twin-eq0.false)
    (walk-before u c.loop-count.volume c.args.places c.args.key.now c.loop-count.before c.loop-count.twin c.in_ok-walk.walk c.loop-count.invariant.read same.sound
    (c.in_ok-walk.ensures.value same.sound)) in
    around-to d u h.0 of.fit of h.1 c.args.places c.args.key.now c.args.address (c.requires.places sound) (C.0 + W.steps) c.in_ok-walk.walk.before c.in_ok-walk.walk.twin W.come
    (W.ends c.if-walk.true)

pub returns-then-walk-clause-equal : goal.returns-then-walk-clause-equal
returns-then-walk-clause-equal g c sound same =
    let d = c.args.dbd.now in
    let u = c.args.volume.now in
    let of = c.requires.of sound in
    let h = c.requires.holds sound in
    let C = c.loop-count.invariant.come h.0 sound h.1 in
    let kept = after-read d u c.loop-count.volume c.loop-count.invariant.read sound in
    let W = walked-in d u h.0 of.fit of h.1 c.args.places c.args.key.now c.args.address (c.requires.places sound) C.0 c.loop-count.before c.loop-count.twin c.in_ok-walk.walk C.2
    (some c.loop-count.twin c.if-twin-eq0.false)
    (walk-before u c.loop-count.volume c.args.places c.args.key.now c.loop-count.before c.loop-count.twin c.in_ok-walk.walk c.loop-count.invariant.read kept.sound
    (c.in_ok-walk.ensures.value kept.sound)) in
    let E = equal-before u c.loop-count.volume c.args.places c.args.key.now c.loop-count.twin c.in_ok-walk.walk c.loop-count.invariant.read kept.sound (c.in_ok-walk.ensures.equal kept.sound same) in
    record { there = W.there c.if-walk.true; is = sym (W.key_is c.if-walk.true) ∙ E.1 }

pub returns-then-walk-clause-from : goal.returns-then-walk-clause-from
returns-then-walk-clause-from g c sound = (found g c sound).0

pub returns-then-walk-clause-before : goal.returns-then-walk-clause-before
returns-then-walk-clause-before g c sound = (found g c sound).1

pub loop-count-preserved : goal.loop-count-preserved
loop-count-preserved g c = record {
  read = reads-join (Ok 0) c.loop-count.invariant.read (read-ok 0 c.in_ok-walk.ensures.read);
  come = λ f sound holds.
      (let d = c.args.dbd.now in
      let u = c.args.volume.now in
      let of = c.requires.of sound in
      let C = c.loop-count.invariant.come f sound holds in
      let same = after-read d u c.loop-count.volume c.loop-count.invariant.read sound in
      let W = walked-in d u f of.fit of holds c.args.places c.args.key.now c.args.address (c.requires.places sound) C.0 c.loop-count.before c.loop-count.twin c.in_ok-walk.walk C.2
      (some c.loop-count.twin c.if-twin-eq0.false)
      (walk-before u c.loop-count.volume c.args.places c.args.key.now c.loop-count.before c.loop-count.twin c.in_ok-walk.walk c.loop-count.invariant.read same.sound
      (c.in_ok-walk.ensures.value same.sound)) in
      let moves : 0 < W.steps = W.moves c.if-walk.false in
      let low : c.loop-count.count ≤ C.0 = C.1 in
      (C.0 + W.steps, omega arith, W.come));
}

-- as many turns as there are addresses passed over all
turned : (g : Over) (c : goal.After-loop-count g) (sound : IsTrue c.args.volume.now.is_sound)
    → IsTwinFrom c.args.dbd.now.types (links_of c.args.dbd.now.types c.args.volume.now) c.args.key.now c.args.address 0
    × IsLastBelow c.args.dbd.now.types (links_of c.args.dbd.now.types c.args.volume.now) c.args.key.now c.args.address c.loop-count.before 0
turned g c sound =
    let d = c.args.dbd.now in
    let u = c.args.volume.now in
    let of = c.requires.of sound in
    let h = c.requires.holds sound in
    let C = c.loop-count.invariant.come h.0 sound h.1 in
    let low : c.loop-count.count ≤ C.0 = C.1 in
    let most : c.length-most.result ≡ length u.image = c.length-most.ensures sound in
    let few : length (rows_of h.0) < length u.image = (few-rows d u h.0 of h.1).0 in
    let over : c.length-most.result ≤ c.loop-count.count = omega (arith, c.loop-count-test.false) in
    let none : c.loop-count.twin ≡ 0 = elim (cases_lt 0 c.loop-count.twin) [
      | inl w ↦ absurd (let N = C.2.passed.far w in let far : C.0 ≤ N.0 = N.1 in let l : N.0 < length (rows_of h.0) = N.2 in omega arith)
      | inr w ↦ omega arith
    ] in
    around-all d u h.0 of.fit of h.1 c.args.places c.args.key.now c.args.address (c.requires.places sound) C.0 c.loop-count.before
    (subst (HasCome d.types (links_of d.types u) h.0 c.args.key.now c.args.address C.0 c.loop-count.before) none C.2)

pub returns-clause-from : goal.returns-clause-from
returns-clause-from g c sound = (turned g c sound).0

pub returns-clause-before : goal.returns-clause-before
returns-clause-before g c sound = (turned g c sound).1
