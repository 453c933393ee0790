use Rattle.std.proofs.Common.{inl}
use Rattle.hd_volume.specs.Volumes.{VolumeState}
use Rattle.hd_volume.proofs.SpacingLemmas.{device-call, on-ok-map, given-leaves}
use Rattle.hd_volume.proofs.volume.Volume.give_block.Goals as goal

pub returns-clause-call : goal.returns-clause-call
returns-clause-call g c =
    let v : VolumeState = c.args.self.now in
    let step = c.give_index.ensures.step in
    device-call c.give_index.result step (inl c.give_index.ensures.spacing) c.give_index.ensures.refusal
    (on-ok-map c.give_index.result (λ h sound. given-leaves v c.give_index.new.self c.args.n step.size step.sizes (inl c.give_index.ensures.spacing) (h sound)) c.give_index.ensures.given)
