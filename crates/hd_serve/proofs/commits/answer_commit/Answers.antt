use Rattle.std.proofs.Common.{IsTrue, refl, sym, ◌∙◌, arith}
use Rattle.hd_session.specs.Opening.{SessionState}
use Rattle.hd_session.proofs.Requests.{IsCommitted}
use Rattle.hd_serve.proofs.OneRequest.{serves_commit, does_commit}
use Rattle.hd_serve.proofs.commits.answer_commit.Goals as goal

pub returns-in-Ok-clause-served : goal.returns-in-Ok-clause-served
returns-in-Ok-clause-served g c =
    let s : SessionState = c.args.session.now in
    let t : SessionState = c.commit.new.self in
    let e = c.in_default.ensures in
    let done : IsTrue s.volume.is_sound → IsCommitted s t = λ sound. record {
      flushed = record { image = (e.flushed sound).0; stored = (e.flushed sound).1; same = e.same; failures = e.counts; sound = e.sound; sizes = e.sizes };
      lasts = ((e.committed sound).1 ∙ sym (e.committed sound).0, (e.committed sound).2 ∙ sym (e.committed sound).0, (e.committed sound).3);
    } in
    record { count = refl; few = omega arith; serves = serves_commit s t c.requires.whole done (g.W.Write.contents c.args.out.now) (g.W.Write.contents c.tell_done.new.out) c.in-Ok.ensures }

pub returns-in-Err-tell_done-clause-halts : goal.returns-in-Err-tell_done-clause-halts
returns-in-Err-tell_done-clause-halts g c =
    let s : SessionState = c.args.session.now in
    let t : SessionState = c.commit.new.self in
    let e = c.in_default.ensures in
    let done : IsTrue s.volume.is_sound → IsCommitted s t = λ sound. record {
      flushed = record { image = (e.flushed sound).0; stored = (e.flushed sound).1; same = e.same; failures = e.counts; sound = e.sound; sizes = e.sizes };
      lasts = ((e.committed sound).1 ∙ sym (e.committed sound).0, (e.committed sound).2 ∙ sym (e.committed sound).0, (e.committed sound).3);
    } in
    does_commit s t c.requires.whole done
