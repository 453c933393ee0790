use Rattle.std.proofs.Common.{List, IsTrue}
use Rattle.hd_dbd.specs.Types.{SegmentType}
use Rattle.hd_image.proofs.OneImage.{links-same, volume-same}
use Rattle.hd_check_blocks.proofs.PlaceLemmas.{places-same}
use Rattle.hd_check_walk.proofs.scattered.are_scattered.Goals as goal

pub is_twin_far-requires-clause-of : goal.is_twin_far-requires-clause-of
is_twin_far-requires-clause-of g c = λ now.
    let read = c.loop-sample.invariant in
    let sound : IsTrue c.args.volume.now.is_sound = rw (← read.call.sound) now in
    volume-same c.args.dbd.now c.args.volume.now c.loop-sample.volume (read.image now) read.call.size read.call.sizes (c.requires.of sound)

pub is_twin_far-requires-clause-places : goal.is_twin_far-requires-clause-places
is_twin_far-requires-clause-places g c = λ now.
    let types : List SegmentType = c.args.dbd.now.types in
    let read = c.loop-sample.invariant in
    let sound : IsTrue c.args.volume.now.is_sound = rw (← read.call.sound) now in
    places-same types c.args.volume.now c.loop-sample.volume c.args.places.now (links-same types c.args.volume.now c.loop-sample.volume (read.image now) read.call.size read.call.sizes) (c.requires.places sound)
