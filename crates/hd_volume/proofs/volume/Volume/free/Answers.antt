use Rattle.std.proofs.Common.{inl}
use Rattle.hd_volume.specs.Volumes.{VolumeState}
use Rattle.hd_volume.proofs.MapLemmas.{find-there}
use Rattle.hd_volume.proofs.SpacingLemmas.{device-call, on-ok-map, freed-leaves}
use Rattle.hd_volume.proofs.volume.Volume.free.Goals as goal

pub returns-clause-call : goal.returns-clause-call
returns-clause-call g c =
    let v : VolumeState = c.args.self.now in
    let step = c.free_segment.ensures.step in
    device-call c.free_segment.result step (inl c.free_segment.ensures.spacing) c.free_segment.ensures.refusal
    (on-ok-map c.free_segment.result (λ h sound. freed-leaves v c.free_segment.new.self c.args.address step.size step.sizes (inl c.free_segment.ensures.spacing)
    (find-there v c.args.address 0 (c.requires.formatted sound) (c.requires.there sound)) (h sound)) c.free_segment.ensures.freed)
