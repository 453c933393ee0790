use Rattle.std.proofs.Common.{IsTrue, Result, Err, ap, sym, ◌∙◌, subst}
use Rattle.std.specs.Prelude.{IfErr}
use Rattle.std.proofs.lemmas.Result.{err_from_is_err_and}
use Rattle.hd_deck.specs.declared.runs.RunFault.{RunFault}
use Rattle.hd_deck.specs.Runs.{turns_of, IsRunFaultOf}
use Rattle.hd_deck.proofs.Opened.{whole_run, fault_at}
use Rattle.hd_deck.proofs.runs.run.Goals as goal

pub returns-in-Ok-clause-played : goal.returns-in-Ok-clause-played
returns-in-Ok-clause-played g c = λ sound.
    let opened = c.in_ok-session.ensures.opened sound in
    whole_run c.args.dbd.now c.args.psb.now.pcbs (g.S.BlockStore.contents c.args.store) opened.loaded opened.image opened.size opened.sizes c.in_ok-session.session opened.start opened.sound opened.now opened.over
    (turns_of c.args.steps.now) (g.W.Write.contents c.args.out.now) (g.W.Write.contents c.play_and_close.new.out) c.in-Ok.end.memory (g.S.BlockStore.contents c.in-Ok.end.store) c.in-Ok.ensures.plays

pub returns-in_err-session-clause-fault : goal.returns-in_err-session-clause-fault
returns-in_err-session-clause-fault g c =
    let p = err_from_is_err_and c.from_residual.result c.from_residual.ensures.1 in
    subst (λ r. IfErr r (λ e. IsTrue (g.S.BlockStore.is_sound c.args.store) → IsRunFaultOf c.args.dbd.now c.args.psb.now.pcbs (g.S.BlockStore.contents c.args.store) (turns_of c.args.steps.now) (g.S.BlockStore.contents e.0) e.1))
    (sym (p.1 ∙ ap Err p.2)) (λ sound. c.in_err-session.ensures.fault sound (turns_of c.args.steps.now))

pub returns-clause-fault : goal.returns-clause-fault
returns-clause-fault g c = λ sound.
    let opened = c.in_ok-session.ensures.opened sound in
    subst (λ (fault : RunFault). IsRunFaultOf c.args.dbd.now c.args.psb.now.pcbs (g.S.BlockStore.contents c.args.store) (turns_of c.args.steps.now) (g.S.BlockStore.contents c.in-Err.store) fault)
    (sym c.fault_of.ensures)
    (fault_at c.args.dbd.now c.args.psb.now.pcbs (g.S.BlockStore.contents c.args.store) opened.loaded opened.image opened.size opened.sizes c.in_ok-session.session opened.start opened.sound opened.now opened.over
    (turns_of c.args.steps.now) (g.S.BlockStore.contents c.in-Err.store) c.in-Err.stop c.in-Err.ensures.leaves)
