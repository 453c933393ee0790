use Rattle.std.proofs.Common.{◌≡◌, ℕ, ◌+◌, ◌≤◌, List, ◌++◌, length, take, drop, Result, Err, arith, ap, sym, ◌∙◌, subst, refl}
use Rattle.std.specs.Prelude.{IfErr}
use Rattle.std.proofs.lemmas.Result.{err_from_is_err_and}
use Rattle.std.proofs.lemmas.List.{length-append, length-replicate, take_all}
use Rattle.hd_session.specs.Opening.{SessionState}
use Rattle.hd_session.specs.Turns.{Turn}
use Rattle.hd_session.proofs.Turns.{whole_none, whole_both}
use Rattle.hd_deck.specs.declared.plays.Stop.{Stop}
use Rattle.hd_deck.specs.declared.plays.Count.{Count}
use Rattle.hd_deck.specs.StepText.{StepText, StepFits}
use Rattle.hd_deck.specs.Runs.{step_turns, turns_of}
use Rattle.hd_deck.specs.Commits.{requests_from, PlaysRequests, DoesUntil}
use Rattle.hd_deck.proofs.Turns.{turns_of_more, turns_of_parts}
use Rattle.hd_deck.proofs.Requests.{requested_none, calls_both, calls_until}
use Rattle.hd_deck.proofs.commits.play_and_commit_steps.Goals as goal

pub loop-step-init : goal.loop-step-init
loop-step-init g c = record {
  plays = requested_none c.args.session.now 1 (g.W.Write.contents c.args.out.now) c.requires.whole;
  calls = refl;
  few = omega arith;
  less = omega arith;
  whole = whole_none c.args.session.now c.requires.whole;
  room = refl;
}

pub loop-step-preserved : goal.loop-step-preserved
loop-step-preserved g c =
    let s : SessionState = c.args.session.now in
    let m : SessionState = c.loop-step.session in
    let new : SessionState = c.play_step_and_commit.new.session in
    let steps : List StepText = c.args.steps.now in
    let i : ℕ = c.loop-step.step-index in
    let step : StepText = c.step-item.result in
    let before : List Turn = turns_of (take i steps) in
    let more : turns_of (take (i + 1) steps) ≡ before ++ step_turns step = turns_of_more steps i step c.loop-step-test.true c.step-item.is in
    let fits : StepFits (length s.pcbs) step = subst (λ (r : StepText). StepFits (length s.pcbs) r) (sym c.step-item.is) (c.requires.steps i step c.loop-step-test.true) in
    let number : c.loop-step.calls + 1 ≡ 1 + length before = omega (arith, c.loop-step.invariant.calls) in
    let repeats : c.from-calls.result ≡ step.repeat = c.from-calls.ensures ∙ ap (λ (r : StepText). r.repeat) c.step.view_is in
    let count : length (step_turns step) ≡ step.repeat = length-replicate {A = Turn} step.repeat (record { pcb = step.pcb; call = step.call }) in
    record {
      plays = subst (λ (ts : List Turn). PlaysRequests s (requests_from c.args.every 1 ts) 1 (g.W.Write.contents c.args.out.now) (g.W.Write.contents c.play_step_and_commit.new.out) (c.loop-step.memory + c.in_ok-lacking.lacking) new)
          (sym more)
          (calls_both c.args.every s m new before (step_turns step) 1 (c.loop-step.calls + 1) (g.W.Write.contents c.args.out.now) (g.W.Write.contents c.loop-step.out) c.loop-step.memory number
          c.loop-step.invariant.plays (g.W.Write.contents c.play_step_and_commit.new.out) c.in_ok-lacking.lacking c.in_ok-lacking.ensures.plays);
      calls = omega (
        arith,
        c.loop-step.invariant.calls,
        repeats,
        ap (λ (ts : List Turn). length ts) more,
        length-append before (step_turns step),
        count,
      );
      few = omega (arith, fits.few_calls, c.loop-step.invariant.few, repeats);
      less = omega (arith, c.loop-step.invariant.less, c.in_ok-lacking.ensures.few, repeats);
      whole = whole_both s m new c.loop-step.invariant.whole c.in_ok-lacking.ensures.whole;
      room = c.in_ok-lacking.ensures.same_room ∙ c.loop-step.invariant.room;
    }

pub returns-in_err-lacking-clause-until : goal.returns-in_err-lacking-clause-until
returns-in_err-lacking-clause-until g c =
    let s : SessionState = c.args.session.now in
    let m : SessionState = c.loop-step.session in
    let new : SessionState = c.play_step_and_commit.new.session in
    let steps : List StepText = c.args.steps.now in
    let i : ℕ = c.loop-step.step-index in
    let step : StepText = c.step-item.result in
    let e : Stop = c.in_err-lacking.field-0.0 in
    let p = err_from_is_err_and c.from_residual.result c.from_residual.ensures.1 in
    let number : c.loop-step.calls + 1 ≡ 1 + length (turns_of (take i steps)) = omega (arith, c.loop-step.invariant.calls) in
    subst (λ (r : Result Count Stop). IfErr r (λ e. DoesUntil s (requests_from c.args.every 1 (turns_of steps)) e new)) (sym (p.1 ∙ ap Err p.2))
    (subst (λ (ts : List Turn). DoesUntil s (requests_from c.args.every 1 ts) e new) (sym (turns_of_parts steps i step c.loop-step-test.true c.step-item.is))
    (calls_until c.args.every s m new (turns_of (take i steps)) (step_turns step) 1 (c.loop-step.calls + 1) (g.W.Write.contents c.args.out.now) (g.W.Write.contents c.loop-step.out) c.loop-step.memory number
    c.loop-step.invariant.plays (turns_of (drop (i + 1) steps)) e c.in_err-lacking.ensures.until))

pub returns-clause-plays : goal.returns-clause-plays
returns-clause-plays g c =
    let steps : List StepText = c.args.steps.now in
    let all : length steps ≤ c.loop-step.step-index = omega (arith, c.loop-step-test.false) in
    subst (λ (ss : List StepText). PlaysRequests c.args.session.now (requests_from c.args.every 1 (turns_of ss)) 1 (g.W.Write.contents c.args.out.now) (g.W.Write.contents c.loop-step.out) c.loop-step.memory c.loop-step.session)
    (take_all c.loop-step.step-index steps all) c.loop-step.invariant.plays
