use Rattle.std.proofs.Common.{◌≡◌, ◌∙◌, subst}
use Rattle.std.specs.Prelude.{IfOk, IfErr}
use Rattle.hd_session.proofs.Turns.{whole_none}
use Rattle.hd_deck.specs.StepText.{StepText}
use Rattle.hd_deck.specs.Runs.{step_turns, PlaysAll, PlaysUntil}
use Rattle.hd_deck.proofs.Calls.{if_ok, step_made, none_made}
use Rattle.hd_deck.proofs.plays.play_step.Goals as goal

pub returns-then-is_err-clause-until : goal.returns-then-is_err-clause-until
returns-then-is_err-clause-until g c = none_made c.args.session.now (step_turns c.args.step.now) c.requires.whole

pub returns-then-is_err-clause-stops : goal.returns-then-is_err-clause-stops
returns-then-is_err-clause-stops g c = whole_none c.args.session.now c.requires.whole

pub returns-clause-plays : goal.returns-clause-plays
returns-clause-plays g c =
    let call : c.call.result.now ≡ c.args.step.now.call = c.call.ensures ∙ if_ok c.make.result c.if-is_err.ensures.value c.make.ensures in
    subst (λ (r : StepText). IfOk c.play_calls.result (λ lacking. PlaysAll c.args.session.now (step_turns r) c.args.number (g.W.Write.contents c.args.out.now)
    (g.W.Write.contents c.play_calls.new.out) lacking c.play_calls.new.session)) (step_made c.args.step.now _ c.call.result.now c.step.view_is call) c.play_calls.ensures.plays

pub returns-clause-until : goal.returns-clause-until
returns-clause-until g c =
    let call : c.call.result.now ≡ c.args.step.now.call = c.call.ensures ∙ if_ok c.make.result c.if-is_err.ensures.value c.make.ensures in
    subst (λ (r : StepText). IfErr c.play_calls.result (λ e. PlaysUntil c.args.session.now (step_turns r) e c.play_calls.new.session))
    (step_made c.args.step.now _ c.call.result.now c.step.view_is call) c.play_calls.ensures.until
