use Rattle.std.proofs.Common.{List, IsTrue, sym, subst}
use Rattle.hd_dbd.specs.Types.{SegmentType}
use Rattle.hd_volume.specs.Volumes.{VolumeState}
use Rattle.hd_volume.proofs.CallSteps.{if-ok}
use Rattle.hd_links.specs.Links.{Links}
use Rattle.hd_links.specs.Pointers.{AreLinked}
use Rattle.hd_image.specs.Records.{links_of}
use Rattle.hd_image.proofs.OneImage.{links-same}
use Rattle.hd_check_blocks.proofs.PlaceLemmas.{places-same}
use Rattle.hd_check_walk.specs.declared.notes.Note.{Note}
use Rattle.hd_check_walk.specs.Notes.{AreNoted, AreChildrenNoted}
use Rattle.hd_check_walk.proofs.walk.are_linked.Goals as goal

pub walk_volume-requires-clause-places : goal.walk_volume-requires-clause-places
walk_volume-requires-clause-places g c = λ now.
    let types : List SegmentType = c.args.dbd.now.types in
    let v : VolumeState = c.args.volume.now in
    let w : VolumeState = c.note_scattered.new.volume in
    let read = c.in_ok-note_scattered.ensures.read in
    let sound : IsTrue v.is_sound = rw (← read.call.sound) now in
    places-same types v w c.args.places.now (links-same types v w (read.image now) read.call.size read.call.sizes) (c.requires.places sound)

pub walk_volume-requires-clause-noted : goal.walk_volume-requires-clause-noted
walk_volume-requires-clause-noted g c = λ now.
    let types : List SegmentType = c.args.dbd.now.types in
    let v : VolumeState = c.args.volume.now in
    let w : VolumeState = c.note_scattered.new.volume in
    let e = c.in_ok-note_scattered.ensures in
    let sound : IsTrue v.is_sound = rw (← e.read.call.sound) now in
    subst (λ (m : Links). AreNoted types m c.args.places.now c.deref.result.now) (sym (links-same types v w (e.read.image now) e.read.call.size e.read.call.sizes))
    (subst (AreNoted types (links_of types v) c.args.places.now) (sym c.deref.ensures.value) (e.noted sound c.if-not-branch.false))

pub walk_volume-requires-clause-children : goal.walk_volume-requires-clause-children
walk_volume-requires-clause-children g c = λ now.
    let types : List SegmentType = c.args.dbd.now.types in
    let v : VolumeState = c.args.volume.now in
    let w : VolumeState = c.note_scattered.new.volume in
    let e = c.in_ok-note_scattered.ensures in
    let sound : IsTrue v.is_sound = rw (← e.read.call.sound) now in
    subst (λ (m : Links). AreChildrenNoted types m c.args.places.now c.deref.result.now c.deref-2.result.now) (sym (links-same types v w (e.read.image now) e.read.call.size e.read.call.sizes))
    (subst (AreChildrenNoted types (links_of types v) c.args.places.now c.deref.result.now) (sym c.deref-2.ensures.value)
    (subst (λ (ns : List Note). AreChildrenNoted types (links_of types v) c.args.places.now ns c.note_scattered.new.named.items) (sym c.deref.ensures.value) (e.children sound c.if-not-branch.false)))

pub returns-clause-linked : goal.returns-clause-linked
returns-clause-linked g c =
    let types : List SegmentType = c.args.dbd.now.types in
    let v : VolumeState = c.args.volume.now in
    let w : VolumeState = c.note_scattered.new.volume in
    let read = c.in_ok-note_scattered.ensures.read in
    if-ok c.walk_volume.result c.walk_volume.ensures.linked
    (λ b linked sound yes. let now : IsTrue w.is_sound = rw read.call.sound sound in
    subst (AreLinked types) (links-same types v w (read.image now) read.call.size read.call.sizes) (linked now yes))
