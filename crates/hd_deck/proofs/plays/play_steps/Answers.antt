use Rattle.std.proofs.Common.{◌≡◌, ℕ, ◌+◌, ◌≤◌, List, ◌++◌, length, take, drop, Result, Err, arith, ap, sym, ◌∙◌, subst, refl}
use Rattle.std.specs.Prelude.{IfErr}
use Rattle.std.proofs.lemmas.Result.{err_from_is_err_and}
use Rattle.std.proofs.lemmas.List.{length-append, length-replicate, take_all}
use Rattle.hd_session.specs.Opening.{SessionState}
use Rattle.hd_session.specs.Turns.{Turn}
use Rattle.hd_session.proofs.Turns.{whole_none, whole_both}
use Rattle.hd_deck.specs.declared.plays.Stop.{Stop}
use Rattle.hd_deck.specs.declared.plays.Count.{Count}
use Rattle.hd_deck.specs.StepText.{StepText, StepFits}
use Rattle.hd_deck.specs.Runs.{step_turns, turns_of, PlaysAll, PlaysUntil}
use Rattle.hd_deck.proofs.Turns.{played_both, played_until, turns_of_more, turns_of_parts}
use Rattle.hd_deck.proofs.Calls.{played_none}
use Rattle.hd_deck.proofs.plays.play_steps.Goals as goal

pub loop-step-init : goal.loop-step-init
loop-step-init g c = record {
  plays = played_none c.args.session.now 1 (g.W.Write.contents c.args.out.now) c.requires.whole;
  calls = refl;
  few = omega arith;
  less = omega arith;
  whole = whole_none c.args.session.now c.requires.whole;
  committed = refl;
  room = refl;
}

pub loop-step-preserved : goal.loop-step-preserved
loop-step-preserved g c =
    let s : SessionState = c.args.session.now in
    let m : SessionState = c.loop-step.session in
    let new : SessionState = c.play_step.new.session in
    let steps : List StepText = c.args.steps.now in
    let i : ℕ = c.loop-step.step-index in
    let step : StepText = c.step-item.result in
    let before : List Turn = turns_of (take i steps) in
    let more : turns_of (take (i + 1) steps) ≡ before ++ step_turns step = turns_of_more steps i step c.loop-step-test.true c.step-item.is in
    let fits : StepFits (length s.pcbs) step = subst (λ (r : StepText). StepFits (length s.pcbs) r) (sym c.step-item.is) (c.requires.steps i step c.loop-step-test.true) in
    let number : c.loop-step.calls + 1 ≡ 1 + length before = omega (arith, c.loop-step.invariant.calls) in
    let repeats : c.from-calls.result ≡ step.repeat = c.from-calls.ensures ∙ ap (λ (r : StepText). r.repeat) c.step.view_is in
    let count : length (step_turns step) ≡ step.repeat = length-replicate {A = Turn} step.repeat (record { pcb = step.pcb; call = step.call }) in
    record {
      plays = subst (λ (ts : List Turn). PlaysAll s ts 1 (g.W.Write.contents c.args.out.now) (g.W.Write.contents c.play_step.new.out) (c.loop-step.memory + c.in_ok-lacking.lacking) new)
          (sym more)
          (played_both s m new before (step_turns step) 1 (c.loop-step.calls + 1) (g.W.Write.contents c.args.out.now) (g.W.Write.contents c.loop-step.out)
          (g.W.Write.contents c.play_step.new.out) c.loop-step.memory c.in_ok-lacking.lacking number c.loop-step.invariant.plays c.in_ok-lacking.ensures.plays);
      calls = omega (
        arith,
        c.loop-step.invariant.calls,
        repeats,
        ap (λ (ts : List Turn). length ts) more,
        length-append before (step_turns step),
        count,
      );
      few = omega (arith, fits.few_calls, c.loop-step.invariant.few, repeats);
      less = omega (arith, c.loop-step.invariant.less, c.in_ok-lacking.ensures.few, repeats);
      whole = whole_both s m new c.loop-step.invariant.whole c.in_ok-lacking.ensures.whole;
      committed = c.in_ok-lacking.ensures.committed ∙ c.loop-step.invariant.committed;
      room = c.in_ok-lacking.ensures.same_room ∙ c.loop-step.invariant.room;
    }

pub returns-in_err-lacking-clause-until : goal.returns-in_err-lacking-clause-until
returns-in_err-lacking-clause-until g c =
    let s : SessionState = c.args.session.now in
    let m : SessionState = c.loop-step.session in
    let new : SessionState = c.play_step.new.session in
    let steps : List StepText = c.args.steps.now in
    let i : ℕ = c.loop-step.step-index in
    let step : StepText = c.step-item.result in
    let e : Stop = c.in_err-lacking.field-0.0 in
    let p = err_from_is_err_and c.from_residual.result c.from_residual.ensures.1 in
    subst (λ (r : Result Count Stop). IfErr r (λ e. PlaysUntil s (turns_of steps) e new)) (sym (p.1 ∙ ap Err p.2))
    (subst (λ (ts : List Turn). PlaysUntil s ts e new) (sym (turns_of_parts steps i step c.loop-step-test.true c.step-item.is))
    (played_until s m new (turns_of (take i steps)) (step_turns step) (turns_of (drop (i + 1) steps)) 1 (g.W.Write.contents c.args.out.now)
    (g.W.Write.contents c.loop-step.out) c.loop-step.memory e c.loop-step.invariant.plays c.in_err-lacking.ensures.until))

pub returns-clause-plays : goal.returns-clause-plays
returns-clause-plays g c =
    let steps : List StepText = c.args.steps.now in
    let all : length steps ≤ c.loop-step.step-index = omega (arith, c.loop-step-test.false) in
    subst (λ (ss : List StepText). PlaysAll c.args.session.now (turns_of ss) 1 (g.W.Write.contents c.args.out.now) (g.W.Write.contents c.loop-step.out) c.loop-step.memory c.loop-step.session)
    (take_all c.loop-step.step-index steps all) c.loop-step.invariant.plays
