use Rattle.std.proofs.Common.{inl, ◌+◌, length}
use Rattle.hd_volume.specs.Volumes.{VolumeState}
use Rattle.hd_volume.proofs.MapLemmas.{find-there}
use Rattle.hd_volume.proofs.SpacingLemmas.{device-call, on-ok-map, written-leaves}
use Rattle.hd_volume.proofs.volume.Volume.write_at.Goals as goal

pub returns-clause-call : goal.returns-clause-call
returns-clause-call g c =
    let v : VolumeState = c.args.self.now in
    let step = c.write_segment.ensures.step in
    device-call c.write_segment.result step (inl c.write_segment.ensures.spacing) c.write_segment.ensures.refusal
    (on-ok-map c.write_segment.result (λ h sound. written-leaves v c.write_segment.new.self c.args.address c.args.offset c.args.bytes.now step.size step.sizes (inl c.write_segment.ensures.spacing)
    (find-there v c.args.address (c.args.offset + length c.args.bytes.now) (c.requires.formatted sound) (c.requires.there sound)) (h sound)) c.write_segment.ensures.written)
