use Rattle.hd_volume.specs.Volumes.{VolumeState}
use Rattle.hd_volume.specs.Calls.{IsRewritten}
use Rattle.std.proofs.Common.{inl, ℕ, subst}
use Rattle.hd_volume.proofs.MapLemmas.{find-there}
use Rattle.hd_volume.proofs.SpacingLemmas.{device-call, on-ok-two, rewritten-leaves}
use Rattle.hd_volume.proofs.volume.Volume.write_over.Goals as goal

pub returns-clause-call : goal.returns-clause-call
returns-clause-call g c =
    let v : VolumeState = c.args.self.now in
    let w : VolumeState = c.write_shorter.new.self in
    let step = c.write_shorter.ensures.step in
    device-call c.write_shorter.result step (inl c.write_shorter.ensures.spacing) c.write_shorter.ensures.refusal
    (on-ok-two c.write_shorter.result (λ to x here sound. rewritten-leaves v w c.args.address c.args.bytes.now step.size step.sizes (inl c.write_shorter.ensures.spacing) (c.requires.formatted sound) c.write_shorter.ensures.some
    (find-there v c.args.address 0 (c.requires.formatted sound) (c.requires.there sound)) (let P : ℕ → Type 0 = λ k. IsRewritten v c.args.address k c.args.bytes.now w in subst P here (x sound)))
    c.write_shorter.ensures.written c.write_shorter.ensures.in_place)
