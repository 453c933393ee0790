use Rattle.std.proofs.Common.{IsTrue}
use Rattle.hd_volume.specs.Volumes.{VolumeState}
use Rattle.hd_volume.proofs.FrameLemmas.{AreSame}
use Rattle.hd_volume.proofs.JoinLemmas.{taken-block}
use Rattle.hd_volume.proofs.volume.Volume.take_index.Goals as goal

pub returns-clause-taken : goal.returns-clause-taken
returns-clause-taken g c sound =
    let v : VolumeState = c.args.self.now in
    let m : VolumeState = c.free_block.new.self in
    let now : IsTrue m.is_sound = rw c.in_ok-n.ensures.step.sound sound in
    let first : AreSame v m = record { size = c.in_ok-n.ensures.step.size; sizes = c.in_ok-n.ensures.step.sizes } in
    let second : AreSame m c.make_index.new.self = record { size = c.in_ok-make_index.ensures.step.size; sizes = c.in_ok-make_index.ensures.step.sizes } in
    taken-block c.in_ok-n.n c.args.level first second (c.requires.formatted sound) (c.in_ok-n.ensures.free sound) (c.in_ok-make_index.ensures.made now) (c.in_ok-n.ensures.by_one sound)
