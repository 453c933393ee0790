use Rattle.std.proofs.Common.{ℕ, List, refl, sym, ap, ◌∙◌, subst, arith}
use Rattle.hd_volume.specs.Images.{KeepsFirst}
use Rattle.hd_volume.specs.Volumes.{VolumeState}
use Rattle.hd_forest.proofs.write.set_pointer.Goals as goal

pub returns-then-holder-eq0-clause-call : goal.returns-then-holder-eq0-clause-call
returns-then-holder-eq0-clause-call g c =
    let u : VolumeState = c.args.volume.now in
    let rest = c.set_root.ensures.rest in
    record {
      counts = ap (λ (v : VolumeState). v.failures) rest;
      sound = ap (λ (v : VolumeState). v.is_sound) rest;
      committed = ap (λ (v : VolumeState). v.committed) rest;
      size = ap (λ (v : VolumeState). v.size) rest;
      sizes = ap (λ (v : VolumeState). v.sizes) rest;
      first = λ sound. subst (λ (s : List ℕ). KeepsFirst u.size u.stored s) (sym (ap (λ (v : VolumeState). v.stored) rest)) (record { len = omega arith; first = λ there. refl });
      plain = λ plain. ap (λ (v : VolumeState). v.spacing) rest ∙ plain;
      space = c.set_root.ensures.space;
    }
