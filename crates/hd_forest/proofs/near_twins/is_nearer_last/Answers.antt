use Rattle.std.proofs.Common.{false, Ok, IsTrue, IfSome, subst}
use Rattle.hd_volume.proofs.CallSteps.{read-ok, reads-join}
use Rattle.hd_forest.specs.BackTwins.{IsBelowAt}
use Rattle.hd_forest.proofs.Reading.{after-read, sound-before}
use Rattle.hd_forest.proofs.BlockTwins.{block-kept}
use Rattle.hd_forest.proofs.NearTwins.{block-of-segment, below-at, below-before}
use Rattle.hd_forest.proofs.near_twins.is_nearer_last.Goals as goal

pub last_number-requires : goal.last_number-requires
last_number-requires g c = record {
  there = λ sound. (let of = c.requires.of sound in (block-of-segment c.args.dbd.now c.args.volume.now c.args.last of.fit of (c.requires.last sound)).there);
}

pub first_number-requires-clause-there : goal.first_number-requires-clause-there
first_number-requires-clause-there g c now =
    let u = c.args.volume.now in
    let sound = sound-before u c.last_number.new.volume c.in_ok-high.ensures.read now in
    let of = c.requires.of sound in
    block-kept u c.last_number.new.volume c.args.first c.in_ok-high.ensures.read now (block-of-segment c.args.dbd.now u c.args.first of.fit of (c.requires.first sound)).there

pub returns-in_default-2-clause-read : goal.returns-in_default-2-clause-read
returns-in_default-2-clause-read g c = reads-join (Ok false) c.in_ok-high.ensures.read (read-ok false c.in_ok-low.ensures.read)

pub returns-clause-read : goal.returns-clause-read
returns-clause-read g c = reads-join (Ok c.is_nearer_high.result) c.in_ok-high.ensures.read (read-ok c.is_nearer_high.result c.in_ok-low.ensures.read)

pub returns-clause-below : goal.returns-clause-below
returns-clause-below g c sound nearer =
    let u = c.args.volume.now in
    let w = c.last_number.new.volume in
    let of = c.requires.of sound in
    let same = after-read c.args.dbd.now u w c.in_ok-high.ensures.read sound in
    let B : IsTrue w.is_sound → IsBelowAt w c.args.places c.args.key.now c.args.first
    = subst (λ o. IfSome o (λ _. IsTrue w.is_sound → IsBelowAt w c.args.places c.args.key.now c.args.first)) c.in-Some-2.is c.in_ok-low.ensures.below in
    below-at c.args.dbd.now u c.args.places c.args.key.now c.args.first of.fit of (c.requires.first sound) (c.requires.places sound)
    (below-before u w c.args.places c.args.key.now c.args.first c.in_ok-high.ensures.read same.sound (B same.sound))
