use Rattle.std.proofs.Common.{Ok, refl, inr}
use Rattle.hd_volume.proofs.CallSteps.{read-ok, read-none, reads-join}
use Rattle.hd_image.specs.Records.{links_of}
use Rattle.hd_forest.proofs.Held.{held}
use Rattle.hd_forest.proofs.Reading.{after-read, sound-before}
use Rattle.hd_forest.proofs.Tips.{twins-there}
use Rattle.hd_forest.proofs.BlockTwins.{block-kept}
use Rattle.hd_forest.proofs.NearTwins.{block-of-segment, came-back, back-before}
use Rattle.hd_forest.proofs.near_twins.twin_back.Goals as goal

pub loop-count-init : goal.loop-count-init
loop-count-init g c = record { read = read-none c.args.volume.now 0; chain = c.requires.last }

pub back_block-requires-clause-there : goal.back_block-requires-clause-there
back_block-requires-clause-there g c now =
    let d = c.args.dbd.now in
    let u = c.args.volume.now in
    let inv = c.loop-count.invariant in
    let sound = sound-before u c.loop-count.volume inv.read now in
    let of = c.requires.of sound in
    let C = inv.chain sound in
    let T = twins-there d.types (links_of d.types u) (held d u of.fit of (c.requires.holds sound)).linked.typed ((links_of d.types u).code c.args.first) C.0 c.args.first c.loop-count.twin (c.requires.first sound) refl C.1 in
    block-kept u c.loop-count.volume c.loop-count.twin inv.read now (block-of-segment d u c.loop-count.twin of.fit of T.0).there

pub returns-then-back-clause-read : goal.returns-then-back-clause-read
returns-then-back-clause-read g c = reads-join (Ok c.in_ok-back.back.twin) c.loop-count.invariant.read (read-ok c.in_ok-back.back.twin c.in_ok-back.ensures.read)

pub returns-then-back-eq0-clause-read : goal.returns-then-back-eq0-clause-read
returns-then-back-eq0-clause-read g c = reads-join (Ok c.args.first) c.loop-count.invariant.read (read-ok c.args.first c.in_ok-back.ensures.read)

pub returns-then-back-clause-value : goal.returns-then-back-clause-value
returns-then-back-clause-value g c sound =
    let d = c.args.dbd.now in
    let u = c.args.volume.now in
    let inv = c.loop-count.invariant in
    let of = c.requires.of sound in
    let same = after-read d u c.loop-count.volume inv.read sound in
    let H = came-back d u of.fit of (c.requires.holds sound) c.args.places c.args.backward c.args.key.now c.args.first (c.requires.places sound) c.requires.backward c.requires.room (c.requires.first sound) (c.requires.below sound)
    c.loop-count.twin c.in_ok-back.back (inv.chain sound)
    (back-before u c.loop-count.volume c.args.places c.args.backward c.args.key.now c.loop-count.twin c.in_ok-back.back inv.read same.sound (c.in_ok-back.ensures.value same.sound)) in
    inr (H.chain, H.below c.if-back.true)

pub loop-count-preserved : goal.loop-count-preserved
loop-count-preserved g c = record {
  read = reads-join (Ok 0) c.loop-count.invariant.read (read-ok 0 c.in_ok-back.ensures.read);
  chain = λ sound.
      (let d = c.args.dbd.now in
      let u = c.args.volume.now in
      let inv = c.loop-count.invariant in
      let of = c.requires.of sound in
      let same = after-read d u c.loop-count.volume inv.read sound in
      (came-back d u of.fit of (c.requires.holds sound) c.args.places c.args.backward c.args.key.now c.args.first (c.requires.places sound) c.requires.backward c.requires.room (c.requires.first sound) (c.requires.below sound)
      c.loop-count.twin c.in_ok-back.back (inv.chain sound)
      (back-before u c.loop-count.volume c.args.places c.args.backward c.args.key.now c.loop-count.twin c.in_ok-back.back inv.read same.sound (c.in_ok-back.ensures.value same.sound))).chain);
}
