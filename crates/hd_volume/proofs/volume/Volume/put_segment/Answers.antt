use Rattle.std.proofs.Common.{◌≡◌, IsTrue, length, refl, sym, ap, ◌∙◌, ◌/◌, ℕ}
use Rattle.hd_volume.specs.Volumes.{VolumeState}
use Rattle.hd_volume.specs.Calls.{IsPut}
use Rattle.hd_volume.proofs.FrameLemmas.{AreSame}
use Rattle.hd_volume.proofs.JoinLemmas.{put-from}
use Rattle.hd_volume.proofs.SpacingLemmas.{put-leaves}
use Rattle.hd_volume.proofs.volume.Volume.put_segment.Goals as goal

pub returns-clause-put : goal.returns-clause-put
returns-clause-put g c sound =
    let v : VolumeState = c.args.self.now in
    let m : VolumeState = c.ready_block.new.self in
    let now : IsTrue m.is_sound = rw c.in_ok-n.ensures.step.sound sound in
    let same : AreSame m c.put_in.new.self = record { size = c.in_ok-address.ensures.step.size; sizes = c.in_ok-address.ensures.step.sizes } in
    put-from c.in_ok-n.n (length c.args.bytes.now) c.in_ok-address.address c.args.bytes.now c.in_ok-n.ensures.step.size same (c.in_ok-n.ensures.ready sound) (c.in_ok-address.ensures.placed now) refl

pub returns-clause-space : goal.returns-clause-space
returns-clause-space g c sound left =
    let u : VolumeState = c.args.self.now in
    let m : VolumeState = c.ready_block.new.self in
    let w : VolumeState = c.put_in.new.self in
    let now : IsTrue m.is_sound = rw c.in_ok-n.ensures.step.sound sound in
    let one = c.in_ok-n.ensures.step in
    let two = c.in_ok-address.ensures.step in
    let same : AreSame m w = record { size = two.size; sizes = two.sizes } in
    let placed = c.in_ok-address.ensures.placed now in
    let put : IsPut u c.in_ok-address.address c.args.bytes.now w =
    put-from c.in_ok-n.n (length c.args.bytes.now) c.in_ok-address.address c.args.bytes.now one.size same (c.in_ok-n.ensures.ready sound) placed refl in
    let at : c.in_ok-address.address / u.size ≡ c.in_ok-n.n = ap (λ (z : ℕ). c.in_ok-address.address / z) (sym one.size) ∙ placed.at in
    put-leaves u m w c.in_ok-n.n c.in_ok-address.address c.args.bytes.now one.size one.sizes (two.size ∙ one.size) (two.sizes ∙ one.sizes) c.in_ok-address.ensures.spacing c.in_ok-n.ensures.spacing
    (c.requires.formatted sound) (rw one.size at c.in_ok-address.ensures.some) put at placed (c.in_ok-n.ensures.may sound left) left
