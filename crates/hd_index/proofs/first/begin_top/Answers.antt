use Rattle.std.proofs.Common.{◌≡◌, ◌+◌, IsTrue, ap, arith}
use Rattle.hd_volume.specs.Volumes.{VolumeState}
use Rattle.hd_volume.proofs.FrameLemmas.{AreSame}
use Rattle.hd_index.proofs.Heads.{top-begun}
use Rattle.hd_index.proofs.first.begin_top.Goals as goal

pub returns-clause-begun : goal.returns-clause-begun
returns-clause-begun g c sound =
    let u = c.args.volume.now in
    let v = c.begin_block.new.volume in
    let y = c.set_top.new.self in
    let w = c.set_height.new.self in
    let s1 : IsTrue v.is_sound = rw c.in_ok-m.ensures.call.sound sound in
    let rest-y = c.set_top.ensures.rest in
    let rest-w = c.set_height.ensures.rest in
    let sy : y.is_sound ≡ v.is_sound = ap (λ (t : VolumeState). t.is_sound) rest-y in
    let s2 : IsTrue y.is_sound = rw sy s1 in
    let same-y : AreSame v y = record { size = ap (λ (t : VolumeState). t.size) rest-y; sizes = ap (λ (t : VolumeState). t.sizes) rest-y } in
    let same-w : AreSame y w = record { size = ap (λ (t : VolumeState). t.size) rest-w; sizes = ap (λ (t : VolumeState). t.sizes) rest-w } in
    let three = c.requires.three in
    top-begun c.args.level c.in_ok-m.m (c.from.result + 1) c.args.key.now c.args.address (let e = c.from.ensures in omega arith) (c.requires.formatted sound) (omega arith) (c.in_ok-m.ensures.begun sound) same-y (c.set_top.ensures.set s1) same-w (c.set_height.ensures.set s2)
