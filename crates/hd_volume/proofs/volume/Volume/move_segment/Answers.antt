use Rattle.std.proofs.Common.{IsTrue}
use Rattle.hd_volume.specs.Volumes.{VolumeState}
use Rattle.hd_volume.proofs.FrameLemmas.{AreSame}
use Rattle.hd_volume.proofs.RewriteLemmas.{put-there, move-rewrites}
use Rattle.hd_volume.proofs.volume.Volume.move_segment.Goals as goal

pub free-requires-clause-there : goal.free-requires-clause-there
free-requires-clause-there g c sound =
    let before : IsTrue c.args.self.now.is_sound = rw (← c.in_ok-to.ensures.call.sound) sound in
    put-there c.args.address c.in_ok-to.to c.args.bytes.now (c.requires.there before) (c.in_ok-to.ensures.put before)

pub returns-clause-moved : goal.returns-clause-moved
returns-clause-moved g c sound =
    let v : VolumeState = c.put.new.self in
    let now : IsTrue v.is_sound = rw c.in_ok-to.ensures.call.sound sound in
    let same : AreSame v c.free.new.self = record { size = c.in_ok-free.ensures.call.size; sizes = c.in_ok-free.ensures.call.sizes } in
    move-rewrites c.args.address c.in_ok-to.to c.args.bytes.now (c.requires.formatted sound) (c.requires.there sound) (c.requires.shorter sound) c.in_ok-to.ensures.call.size same (c.in_ok-to.ensures.put sound) (c.in_ok-free.ensures.freed now)
