use Rattle.std.proofs.Common.{◌≡◌, ◌+◌, refl, ap}
use Rattle.hd_volume.specs.Headers.{header_of}
use Rattle.hd_volume.specs.Volumes.{VolumeState}
use Rattle.hd_volume.specs.Steps.{HasFree}
use Rattle.hd_volume.proofs.JoinLemmas.{AreOne, free-between}
use Rattle.hd_volume.proofs.volume.Volume.grow_reserved.Goals as goal

pub returns-in-Some-clause-grown : goal.returns-in-Some-clause-grown
returns-in-Some-clause-grown g c sound =
    let u : VolumeState = c.args.self.now in
    let w : VolumeState = c.extend_by.new.self in
    let grown : HasFree u c.in-Some.n w × (c.in-Some.n + 1 ≡ (header_of u.image).count + c.args.more) = rw c.in-Some.is at (c.in_ok-extend_by.ensures.grown sound) in
    let rest = c.change_spacing.ensures.rest in
    let own : AreOne u u = record { same = record { size = refl; sizes = refl }; image = refl } in
    let same : AreOne w c.change_spacing.new.self = record {
      same = record { size = ap (λ (v : VolumeState). v.size) rest; sizes = ap (λ (v : VolumeState). v.sizes) rest };
      image = ap (λ (v : VolumeState). v.image) rest;
    } in
    (free-between own same c.in-Some.n grown.0, grown.1)
