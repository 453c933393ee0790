use Rattle.std.proofs.Common.{◌≡◌, ◌≤◌, IsTrue, IfErr, subst}
use Rattle.hd_dbd.specs.declared.answer.Refused.TheVariants.{Full}
use Rattle.hd_volume.specs.Headers.{header_of}
use Rattle.hd_volume.specs.Volumes.{VolumeState}
use Rattle.hd_volume.proofs.JoinLemmas.{no-spare, if-err-map}
use Rattle.hd_volume.proofs.volume.Volume.lowest_or_new.Goals as goal

pub returns-in-None-clause-full : goal.returns-in-None-clause-full
returns-in-None-clause-full g c =
    let v : VolumeState = c.args.self.now in
    let E : VolumeState → Type 0 = λ u. IfErr c.extend.result (λ e. e ≡ Full → IsTrue u.is_sound → (header_of u.image).largest ≤ (header_of u.image).count) in
    if-err-map c.extend.result (λ e h is sound. no-spare v (c.requires.formatted sound) c.lowest_free.ensures.some (h is sound) (c.in-None.ensures.none sound))
    (subst E c.lowest_free.ensures.same c.extend.ensures.full)
