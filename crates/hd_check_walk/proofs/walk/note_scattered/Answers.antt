use Rattle.std.proofs.Common.{List, IsTrue, subst}
use Rattle.hd_dbd.specs.Types.{SegmentType}
use Rattle.hd_volume.specs.Volumes.{VolumeState}
use Rattle.hd_volume.proofs.CallSteps.{if-ok}
use Rattle.hd_links.specs.Links.{Links}
use Rattle.hd_image.proofs.OneImage.{links-same}
use Rattle.hd_check_blocks.proofs.PlaceLemmas.{places-same}
use Rattle.hd_check_walk.specs.Notes.{AreNoted, AreChildrenNoted}
use Rattle.hd_check_walk.proofs.walk.note_scattered.Goals as goal

pub note_segments-requires-clause-places : goal.note_segments-requires-clause-places
note_segments-requires-clause-places g c = λ now.
    let types : List SegmentType = c.args.dbd.now.types in
    let v : VolumeState = c.args.volume.now in
    let w : VolumeState = c.are_scattered.new.volume in
    let read = c.in_ok-are_scattered.ensures.read in
    let sound : IsTrue v.is_sound = rw (← read.call.sound) now in
    places-same types v w c.args.places.now (links-same types v w (read.image now) read.call.size read.call.sizes) (c.requires.places sound)

pub returns-clause-noted : goal.returns-clause-noted
returns-clause-noted g c =
    let types : List SegmentType = c.args.dbd.now.types in
    let v : VolumeState = c.args.volume.now in
    let w : VolumeState = c.are_scattered.new.volume in
    let read = c.in_ok-are_scattered.ensures.read in
    if-ok c.note_segments.result c.note_segments.ensures.noted
    (λ b noted sound yes. let now : IsTrue w.is_sound = rw read.call.sound sound in
    subst (λ (m : Links). AreNoted types m c.args.places.now c.note_segments.new.notes.items) (links-same types v w (read.image now) read.call.size read.call.sizes) (noted now yes))

pub returns-clause-children : goal.returns-clause-children
returns-clause-children g c =
    let types : List SegmentType = c.args.dbd.now.types in
    let v : VolumeState = c.args.volume.now in
    let w : VolumeState = c.are_scattered.new.volume in
    let read = c.in_ok-are_scattered.ensures.read in
    if-ok c.note_segments.result c.note_segments.ensures.children
    (λ b noted sound yes. let now : IsTrue w.is_sound = rw read.call.sound sound in
    subst (λ (m : Links). AreChildrenNoted types m c.args.places.now c.note_segments.new.notes.items c.note_segments.new.named.items) (links-same types v w (read.image now) read.call.size read.call.sizes) (noted now yes))
