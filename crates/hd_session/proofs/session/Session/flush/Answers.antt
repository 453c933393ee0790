use Rattle.std.proofs.Common.{IsTrue, sym, subst, ◌∙◌}
use Rattle.hd_links.specs.Links.{Links}
use Rattle.hd_image.proofs.OneImage.{links-same}
use Rattle.hd_session.specs.LastGiven.{AreKeysIn, IsSeenIn}
use Rattle.hd_session.proofs.Ready.{same_state}
use Rattle.hd_session.proofs.session.Session.flush.Goals as goal

-- a flush leaves the image
pub invariant_of-self : goal.invariant_of-self
invariant_of-self g c =
    let kept = c.self.invariant.0 in
    let flushed = c.in-Ok.ensures in
    let d = c.self.inside.dbd.now in (
      record {
        made_for = kept.made_for;
        program = kept.program;
        size = flushed.size ∙ kept.size;
        sizes = flushed.sizes ∙ kept.sizes;
        plain = flushed.spacing ∙ kept.plain;
        one_each = kept.one_each;
        stands = λ whole now.
            let sound : IsTrue c.self.inside.volume.is_sound = rw (← flushed.sound) now in
            same_state d c.self.inside.psb.now.pcbs c.self.inside.volume c.flush.new.self (flushed.image sound).0 flushed.size flushed.sizes
            c.self.inside.positions.items (kept.stands whole sound);
      },
      λ now.
          let sound : IsTrue c.self.inside.volume.is_sound = rw (← flushed.sound) now in
          subst (λ (m : Links). AreKeysIn d.types m c.self.inside.last_given × IsSeenIn d.types m c.self.inside.last_given) (sym (links-same d.types c.self.inside.volume c.flush.new.self (flushed.image sound).0 flushed.size flushed.sizes)) (c.self.invariant.1 sound),
      c.self.invariant.2,
    )
