use Rattle.std.proofs.Common.{◌≡◌, IsTrue, sym, arith}
use Rattle.hd_volume.specs.Volumes.{VolumeState}
use Rattle.hd_volume.specs.Steps.{HasRoom}
use Rattle.hd_volume.proofs.FrameLemmas.{AreSame}
use Rattle.hd_volume.proofs.JoinLemmas.{ready-new}
use Rattle.hd_volume.proofs.volume.Volume.new_block.Goals as goal

pub returns-clause-ready : goal.returns-clause-ready
returns-clause-ready g c sound need fits none =
    let m : VolumeState = c.free_block.new.self in
    let w : VolumeState = c.make_data.new.self in
    let now : IsTrue m.is_sound = rw c.in_ok-n.ensures.step.sound sound in
    let size : m.size ≡ c.args.self.now.size = c.in_ok-n.ensures.step.size in
    let room = c.in_ok-make_data.ensures.has_room now in
    let large = room.large in
    let r : HasRoom w c.in_ok-n.n need = record { is_data = room.is_data; large = omega arith } in
    let same : AreSame m w = record { size = c.in_ok-make_data.ensures.step.size; sizes = c.in_ok-make_data.ensures.step.sizes } in
    ready-new c.in_ok-n.n need same (c.requires.formatted sound) (c.in_ok-n.ensures.free sound) (c.in_ok-make_data.ensures.made now) r none (c.in_ok-n.ensures.by_one sound) (sym size) (omega arith) (c.in_ok-make_data.ensures.unused now)
