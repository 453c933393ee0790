use Rattle.std.proofs.Common.{IsTrue, Bool, [], ◌∷◌, cond, sym, ◌∙◌, subst}
use Rattle.hd_session.specs.Opening.{SessionState}
use Rattle.hd_session.specs.Requests.{commit}
use Rattle.hd_session.proofs.Requests.{IsCommitted, done_none, done_commit}
use Rattle.hd_deck.specs.Commits.{CommitsIfDue}
use Rattle.hd_deck.proofs.commits.commit_if_due.Goals as goal

pub returns-then-not-is_due-clause-commits : goal.returns-then-not-is_due-clause-commits
returns-then-not-is_due-clause-commits g c =
    let s : SessionState = c.args.session.now in
    subst (λ (b : Bool). CommitsIfDue s (cond b (commit ∷ []) []) s) (sym c.if-not-is_due.true ∙ c.is_due.ensures) (λ st sound stands. done_none s st c.requires.whole stands)

pub returns-in-Ok-clause-commits : goal.returns-in-Ok-clause-commits
returns-in-Ok-clause-commits g c =
    let s : SessionState = c.args.session.now in
    let t : SessionState = c.commit.new.self in
    let e = c.in-Ok.ensures in
    let done : IsTrue s.volume.is_sound → IsCommitted s t = λ sound. record {
      flushed = record { image = (e.flushed sound).0; stored = (e.flushed sound).1; same = e.same; failures = e.counts; sound = e.sound; sizes = e.sizes };
      lasts = ((e.committed sound).1 ∙ sym (e.committed sound).0, (e.committed sound).2 ∙ sym (e.committed sound).0, (e.committed sound).3);
    } in
    subst (λ (b : Bool). CommitsIfDue s (cond b (commit ∷ []) []) t) (sym c.if-not-is_due.false ∙ c.is_due.ensures) (done_commit s t c.requires.whole done)
