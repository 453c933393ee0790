use Rattle.std.proofs.Common.{inl}
use Rattle.hd_volume.specs.Volumes.{VolumeState}
use Rattle.hd_volume.proofs.SpacingLemmas.{device-call, on-ok-map, block-leaves}
use Rattle.hd_volume.proofs.volume.Volume.write_block.Goals as goal

pub returns-clause-call : goal.returns-clause-call
returns-clause-call g c =
    let v : VolumeState = c.args.self.now in
    let step = c.write_index.ensures.step in
    device-call c.write_index.result step (inl c.write_index.ensures.spacing) c.write_index.ensures.refusal
    (on-ok-map c.write_index.result (λ h sound. block-leaves v c.write_index.new.self c.args.n c.args.offset c.args.bytes.now step.size step.sizes (inl c.write_index.ensures.spacing) (c.requires.there sound) (h sound)) c.write_index.ensures.written)
