use Rattle.std.proofs.Common.{IsTrue, Ok, Some, None, sym, subst}
use Rattle.hd_volume.specs.Volumes.{VolumeState}
use Rattle.hd_volume.proofs.CallSteps.{read-ok, reads-join}
use Rattle.hd_links.specs.Links.{Links}
use Rattle.hd_image.proofs.OneImage.{links-same, volume-same}
use Rattle.hd_check_pointers.specs.Keys.{IsLastKey}
use Rattle.hd_check_walk.specs.Twins.{HaveFronts, IsKeyBehind}
use Rattle.hd_check_walk.proofs.Chains.{when-some}
use Rattle.hd_check_walk.proofs.twins.look_behind.Goals as goal

pub is_key_right-requires-clause-of : goal.is_key_right-requires-clause-of
is_key_right-requires-clause-of g c = λ now.
    let read = c.in_ok-seen.ensures.read in
    let sound : IsTrue c.args.volume.now.is_sound = rw (← read.call.sound) now in
    volume-same c.args.dbd.now c.args.volume.now c.look_at.new.volume (read.image now) read.call.size read.call.sizes (c.requires.of sound)

pub is_key_right-requires-clause-twins : goal.is_key_right-requires-clause-twins
is_key_right-requires-clause-twins g c = λ now some.
    let types = c.args.dbd.now.types in
    let v : VolumeState = c.args.volume.now in
    let read = c.in_ok-seen.ensures.read in
    let sound : IsTrue v.is_sound = rw (← read.call.sound) now in
    let same = links-same types v c.look_at.new.volume (read.image now) read.call.size read.call.sizes in
    let seen = when-some _ c.in_ok-seen.field-0 c.in-Some.seen c.in-Some.is (c.in_ok-seen.ensures.seen sound) in
    let there = c.requires.there sound in
    subst (λ (m : Links). HaveFronts types m c.args.place.code c.args.before (record { address = c.args.place.address; front = c.in-Some.seen.front })) (sym same)
    (c.requires.before sound some, record { here = there.0; typed = there.1; front_is = seen.front })

pub is_key_right-requires-clause-known : goal.is_key_right-requires-clause-known
is_key_right-requires-clause-known g c = λ now.
    let types = c.args.dbd.now.types in
    let v : VolumeState = c.args.volume.now in
    let read = c.in_ok-seen.ensures.read in
    let sound : IsTrue v.is_sound = rw (← read.call.sound) now in
    subst (λ (m : Links). IsLastKey types m c.args.last.now) (sym (links-same types v c.look_at.new.volume (read.image now) read.call.size read.call.sizes)) (c.requires.known sound)

pub returns-then-not-branch-clause-read : goal.returns-then-not-branch-clause-read
returns-then-not-branch-clause-read g c = read-ok None (reads-join (Ok c.in_ok-is_key_right.field-0) c.in_ok-seen.ensures.read c.in_ok-is_key_right.ensures.read)

pub returns-clause-read : goal.returns-clause-read
returns-clause-read g c = read-ok (Some c.in-Some.seen) (reads-join (Ok c.in_ok-is_key_right.field-0) c.in_ok-seen.ensures.read c.in_ok-is_key_right.ensures.read)

pub returns-clause-key : goal.returns-clause-key
returns-clause-key g c = λ sound some.
    let types = c.args.dbd.now.types in
    let v : VolumeState = c.args.volume.now in
    let read = c.in_ok-seen.ensures.read in
    let now : IsTrue c.look_at.new.volume.is_sound = rw read.call.sound sound in
    subst (λ (m : Links). IsKeyBehind types m c.args.before.address c.args.place.address) (links-same types v c.look_at.new.volume (read.image now) read.call.size read.call.sizes)
    (c.in_ok-is_key_right.ensures.right now c.if-not-branch.false some)

pub returns-clause-known : goal.returns-clause-known
returns-clause-known g c = λ sound.
    let types = c.args.dbd.now.types in
    let v : VolumeState = c.args.volume.now in
    let read = c.in_ok-seen.ensures.read in
    let now : IsTrue c.look_at.new.volume.is_sound = rw read.call.sound sound in
    subst (λ (m : Links). IsLastKey types m c.is_key_right.new.last) (links-same types v c.look_at.new.volume (read.image now) read.call.size read.call.sizes)
    (c.in_ok-is_key_right.ensures.known now c.if-not-branch.false)
