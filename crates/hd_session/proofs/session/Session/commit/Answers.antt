use Rattle.std.proofs.Common.{◌≡◌, IsTrue, sym, subst, ◌∙◌}
use Rattle.hd_links.specs.Links.{Links}
use Rattle.hd_image.proofs.OneImage.{links-same}
use Rattle.hd_stores.specs.Stores.{IsCommit}
use Rattle.hd_session.specs.LastGiven.{AreKeysIn, IsSeenIn}
use Rattle.hd_session.specs.Opening.{SessionState}
use Rattle.hd_session.proofs.Ready.{same_state}
use Rattle.hd_session.proofs.session.Session.commit.Goals as goal

-- a commit leaves the image
pub invariant_of-self : goal.invariant_of-self
invariant_of-self g c =
    let kept = c.self.invariant.0 in
    let done = c.in-Ok.ensures in
    let d = c.self.inside.dbd.now in (
      record {
        made_for = kept.made_for;
        program = kept.program;
        size = done.size ∙ kept.size;
        sizes = done.sizes ∙ kept.sizes;
        plain = done.spacing ∙ kept.plain;
        one_each = kept.one_each;
        stands = λ whole now.
            let sound : IsTrue c.self.inside.volume.is_sound = rw (← done.sound) now in
            same_state d c.self.inside.psb.now.pcbs c.self.inside.volume c.commit.new.self (done.committed sound).0 done.size done.sizes
            c.self.inside.positions.items (kept.stands whole sound);
      },
      λ now.
          let sound : IsTrue c.self.inside.volume.is_sound = rw (← done.sound) now in
          subst (λ (m : Links). AreKeysIn d.types m c.self.inside.last_given × IsSeenIn d.types m c.self.inside.last_given) (sym (links-same d.types c.self.inside.volume c.commit.new.self (done.committed sound).0 done.size done.sizes)) (c.self.invariant.1 sound),
      c.self.invariant.2,
    )

-- what it makes last is the image from before
pub returns-in-Ok-clause-committed : goal.returns-in-Ok-clause-committed
returns-in-Ok-clause-committed g c =
    let P : SessionState → Type 0 = λ s. IsCommit s.volume.is_sound s.volume.image c.commit.new.self.image s.volume.committed c.commit.new.self.committed in
    subst P c.self.view_is c.in-Ok.ensures.committed

pub returns-in-Ok-clause-flushed : goal.returns-in-Ok-clause-flushed
returns-in-Ok-clause-flushed g c =
    let P : SessionState → Type 0 = λ s. IsTrue s.volume.is_sound → (c.commit.new.self.image ≡ s.volume.image) × (c.commit.new.self.stored ≡ s.volume.image) in
    subst P c.self.view_is (λ sound. ((c.in-Ok.ensures.committed sound).0, c.in-Ok.ensures.stored sound))
