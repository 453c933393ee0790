use Rattle.std.proofs.Common.{◌<◌, length, arith}
use Rattle.hd_check_blocks.specs.Places.{place_at}
use Rattle.hd_check_blocks.proofs.Lent.{has-segment}
use Rattle.hd_check_walk.proofs.Steps.{stands}
use Rattle.hd_check_walk.proofs.scattered.is_twin_far.Goals as goal

pub segment_at-requires-clause-there : goal.segment_at-requires-clause-there
segment_at-requires-clause-there g c = λ sound.
    let d = c.args.dbd.now in
    let v = c.args.volume.now in
    let ps = c.args.places.now in
    let n = c.args.number in
    let of = c.requires.of sound in
    let test = c.if-number-places.false in
    let within : n < length ps = omega arith in
    has-segment d v (place_at ps n).address of.fit of (stands d.types v ps (c.requires.places sound) n within)
