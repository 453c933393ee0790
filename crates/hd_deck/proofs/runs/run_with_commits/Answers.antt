use Rattle.std.proofs.Common.{IsTrue, Result, Err, ap, sym, ◌∙◌, subst}
use Rattle.std.specs.Prelude.{IfErr}
use Rattle.std.proofs.lemmas.Result.{err_from_is_err_and}
use Rattle.hd_deck.specs.declared.runs.RunFault.{RunFault}
use Rattle.hd_deck.specs.Runs.{turns_of}
use Rattle.hd_deck.specs.Commits.{stored_in, requests_from, IsDoneUntilFault}
use Rattle.hd_deck.proofs.CommitsOpened.{run_done, done_until, until_opening}
use Rattle.hd_deck.proofs.runs.run_with_commits.Goals as goal

pub returns-in-Ok-clause-done : goal.returns-in-Ok-clause-done
returns-in-Ok-clause-done g c = λ sound.
    run_done c.args.dbd.now c.args.psb.now.pcbs (stored_in g.S.BlockStore.contents g.S.BlockStore.committed c.args.store) c.in_ok-session.session (c.in_ok-session.ensures.opened sound)
    (requests_from c.args.every 1 (turns_of c.args.steps.now)) (g.W.Write.contents c.args.out.now) (g.W.Write.contents c.commit_and_close.new.out) c.in-Ok.end.memory
    (stored_in g.S.BlockStore.contents g.S.BlockStore.committed c.in-Ok.end.store) c.in-Ok.ensures.plays

pub returns-in_err-session-clause-fault : goal.returns-in_err-session-clause-fault
returns-in_err-session-clause-fault g c =
    let p = err_from_is_err_and c.from_residual.result c.from_residual.ensures.1 in
    let e = c.in_err-session in
    subst (λ r. IfErr r (λ e. IsTrue (g.S.BlockStore.is_sound c.args.store) → IsDoneUntilFault c.args.dbd.now c.args.psb.now.pcbs (stored_in g.S.BlockStore.contents g.S.BlockStore.committed c.args.store)
    (requests_from c.args.every 1 (turns_of c.args.steps.now)) (stored_in g.S.BlockStore.contents g.S.BlockStore.committed e.0) e.1))
    (sym (p.1 ∙ ap Err p.2))
    (λ sound. until_opening c.args.dbd.now c.args.psb.now.pcbs (stored_in g.S.BlockStore.contents g.S.BlockStore.committed c.args.store) (requests_from c.args.every 1 (turns_of c.args.steps.now)) _ _
    (e.ensures.fault sound) e.ensures.first e.ensures.given.0)

pub returns-clause-fault : goal.returns-clause-fault
returns-clause-fault g c = λ sound.
    subst (λ (fault : RunFault). IsDoneUntilFault c.args.dbd.now c.args.psb.now.pcbs (stored_in g.S.BlockStore.contents g.S.BlockStore.committed c.args.store)
    (requests_from c.args.every 1 (turns_of c.args.steps.now)) (stored_in g.S.BlockStore.contents g.S.BlockStore.committed c.in-Err.store) fault)
    (sym c.fault_of.ensures)
    (done_until c.args.dbd.now c.args.psb.now.pcbs (stored_in g.S.BlockStore.contents g.S.BlockStore.committed c.args.store) c.in_ok-session.session (c.in_ok-session.ensures.opened sound)
    (requests_from c.args.every 1 (turns_of c.args.steps.now)) (stored_in g.S.BlockStore.contents g.S.BlockStore.committed c.in-Err.store) c.in-Err.stop c.in-Err.ensures.leaves)
