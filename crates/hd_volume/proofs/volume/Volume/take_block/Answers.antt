use Rattle.hd_volume.specs.Volumes.{VolumeState}
use Rattle.hd_volume.proofs.SpacingLemmas.{kept-call, on-ok-two, ok-both, taken-leaves}
use Rattle.hd_volume.proofs.volume.Volume.take_block.Goals as goal

pub returns-clause-call : goal.returns-clause-call
returns-clause-call g c =
    let v : VolumeState = c.args.self.now in
    let step = c.take_index.ensures.step in
    kept-call c.take_index.result step c.take_index.ensures.spacing c.take_index.ensures.kept
    (on-ok-two c.take_index.result (λ n x both sound. taken-leaves v c.take_index.new.self n c.args.level step.size step.sizes c.take_index.ensures.spacing (c.requires.formatted sound) both.0 (x sound) (both.1 sound))
    c.take_index.ensures.taken (ok-both _ _ c.take_index.result c.take_index.ensures.some c.take_index.ensures.may))
