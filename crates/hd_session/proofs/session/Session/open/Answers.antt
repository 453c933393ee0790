use Rattle.std.proofs.Common.{◌≡◌, IsTrue, List, Ok, refl, sym, ap, ◌∙◌, subst, arith}
use Rattle.hd_dbd.specs.Types.{View}
use Rattle.hd_volume.specs.Volumes.{VolumeState}
use Rattle.hd_volume.proofs.JoinLemmas.{calls-join}
use Rattle.hd_changes.proofs.Plain.{plain-call}
use Rattle.hd_session.specs.Opening.{all_at_start, IsReadyFor}
use Rattle.hd_session.proofs.KeysKnown.{nothing_known}
use Rattle.hd_session.proofs.Ready.{one_each, start_represents, start_state}
use Rattle.hd_session.proofs.session.Session.open.Goals as goal

-- each PCB is before all rows of the volume
pub invariant_of-result : goal.invariant_of-result
invariant_of-result g c =
    let read = c.in_default.ensures.read in
    let d = c.args.dbd.now in
    let m : VolumeState = c.test_volume.new.volume in
    let w : VolumeState = c.set_spacing.new.self in
    let rest = c.set_spacing.ensures.rest in
    let size : w.size ≡ c.args.volume.size = ap (λ (u : VolumeState). u.size) rest ∙ read.call.size in
    let sizes : w.sizes ≡ c.args.volume.sizes = ap (λ (u : VolumeState). u.sizes) rest ∙ read.call.sizes in
    let pcbs : List View = c.args.psb.now.pcbs in
    let start = c.in-Ok.ensures.start ∙ ap all_at_start c.pcbs-pcbs.ensures.pcbs in (
      record {
        made_for = c.requires.matches;
        program = c.pcbs-pcbs.ensures.fit;
        size = size ∙ c.requires.size.0;
        sizes = sizes ∙ c.requires.size.1;
        plain = ap (λ (u : VolumeState). u.spacing) rest;
        one_each = one_each pcbs c.in-Ok.positions.items start;
        stands = λ whole now.
            let middle : IsTrue m.is_sound = rw (ap (λ (u : VolumeState). u.is_sound) rest) at now in
            let sound : IsTrue c.args.volume.is_sound = rw (← read.call.sound) middle in
            start_state d pcbs c.args.volume w (ap (λ (u : VolumeState). u.image) rest ∙ read.image middle) size sizes c.in-Ok.positions.items
            (subst (λ (ps : List View). IsReadyFor d ps c.args.volume) c.pcbs-pcbs.ensures.pcbs (c.in_default.ensures.ready sound)) start;
      },
      nothing_known d w c.new.result c.new.ensures,
      λ pcb is. tt,
    )

pub returns-in-Ok-clause-read : goal.returns-in-Ok-clause-read
returns-in-Ok-clause-read g c =
    let read = c.in_default.ensures.read in
    let m : VolumeState = c.test_volume.new.volume in
    let w : VolumeState = c.set_spacing.new.self in
    let rest = c.set_spacing.ensures.rest in
    let more = c.set_spacing.ensures.more refl in
    let room = read.room in
    let middle = λ (now : IsTrue w.is_sound). (let z : IsTrue m.is_sound = rw (ap (λ (u : VolumeState). u.is_sound) rest) at now in z) in
    record {
      call = calls-join (Ok _) read.call (plain-call _ rest);
      image = λ now. ap (λ (u : VolumeState). u.image) rest ∙ read.image (middle now);
      stands = λ now all. ap (λ (u : VolumeState). u.stored) rest ∙ read.stands (middle now) all ∙ sym (ap (λ (u : VolumeState). u.image) rest);
      plain = ap (λ (u : VolumeState). u.spacing) rest;
      room = omega arith;
    }

pub returns-in-Ok-clause-stands : goal.returns-in-Ok-clause-stands
returns-in-Ok-clause-stands g c = λ sound.
    let read = c.in_default.ensures.read in
    let d = c.args.dbd.now in
    let m : VolumeState = c.test_volume.new.volume in
    let w : VolumeState = c.set_spacing.new.self in
    let rest = c.set_spacing.ensures.rest in
    let pcbs : List View = c.args.psb.now.pcbs in
    let start = c.in-Ok.ensures.start ∙ ap all_at_start c.pcbs-pcbs.ensures.pcbs in
    let middle : IsTrue m.is_sound = rw read.call.sound sound in
    let ready : IsReadyFor d pcbs c.args.volume = subst (λ (ps : List View). IsReadyFor d ps c.args.volume) c.pcbs-pcbs.ensures.pcbs (c.in_default.ensures.ready sound) in
    record {
      ready = ready;
      represents = start_represents d pcbs c.args.volume w (ap (λ (u : VolumeState). u.image) rest ∙ read.image middle) (ap (λ (u : VolumeState). u.size) rest ∙ read.call.size)
          (ap (λ (u : VolumeState). u.sizes) rest ∙ read.call.sizes) c.in-Ok.positions.items ready start;
    }
