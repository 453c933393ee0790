use Rattle.std.proofs.Common.{◌≡◌, ℕ, ◌+◌, ◌-◌, List, [], ◌∷◌, length, replicate, Result, Err, arith, ap, sym, ◌∙◌, subst, refl}
use Rattle.std.specs.Prelude.{IfErr}
use Rattle.std.proofs.lemmas.List.{replicate_more, length-replicate}
use Rattle.std.proofs.lemmas.Result.{err_from_is_err_and}
use Rattle.hd_session.specs.Opening.{SessionState}
use Rattle.hd_session.specs.Turns.{Turn}
use Rattle.hd_session.proofs.Turns.{whole_none, whole_both}
use Rattle.hd_deck.specs.declared.plays.Stop.{Stop}
use Rattle.hd_deck.specs.Runs.{PlaysAll, PlaysUntil}
use Rattle.hd_deck.proofs.Turns.{played_both, played_until, replicate_parts}
use Rattle.hd_deck.proofs.Calls.{played_none}
use Rattle.hd_deck.proofs.plays.play_calls.Goals as goal

pub loop-made-init : goal.loop-made-init
loop-made-init g c = record {
  plays = played_none c.args.session.now c.args.number (g.W.Write.contents c.args.out.now) c.requires.whole;
  few = omega arith;
  whole = whole_none c.args.session.now c.requires.whole;
  committed = refl;
  room = refl;
}

pub loop-made-preserved : goal.loop-made-preserved
loop-made-preserved g c =
    let t : Turn = record { pcb = c.args.pcb; call = c.args.call.now } in
    let s : SessionState = c.args.session.now in
    let m : SessionState = c.loop-made.session in
    let new : SessionState = c.play_call.new.session in
    let before : List Turn = replicate c.loop-made.made t in
    let number : c.args.number + c.from.result ≡ c.args.number + length before = omega (arith, c.from.ensures, length-replicate c.loop-made.made t) in
    record {
      plays = subst (λ (ts : List Turn). PlaysAll s ts c.args.number (g.W.Write.contents c.args.out.now) (g.W.Write.contents c.play_call.new.out) (c.loop-made.lacking + c.in_ok-more.more) new)
          (replicate_more c.loop-made.made t)
          (played_both s m new before (t ∷ []) c.args.number (c.args.number + c.from.result) (g.W.Write.contents c.args.out.now) (g.W.Write.contents c.loop-made.out)
          (g.W.Write.contents c.play_call.new.out) c.loop-made.lacking c.in_ok-more.more number c.loop-made.invariant.plays c.in_ok-more.ensures.plays);
      few = omega (arith, c.loop-made.invariant.few, c.in_ok-more.ensures.few);
      whole = whole_both s m new c.loop-made.invariant.whole c.in_ok-more.ensures.whole;
      committed = c.in_ok-more.ensures.committed ∙ c.loop-made.invariant.committed;
      room = c.in_ok-more.ensures.same_room ∙ c.loop-made.invariant.room;
    }

pub returns-in_err-more-clause-until : goal.returns-in_err-more-clause-until
returns-in_err-more-clause-until g c =
    let t : Turn = record { pcb = c.args.pcb; call = c.args.call.now } in
    let s : SessionState = c.args.session.now in
    let m : SessionState = c.loop-made.session in
    let new : SessionState = c.play_call.new.session in
    let e : Stop = c.in_err-more.field-0.0 in
    let before : List Turn = replicate c.loop-made.made t in
    let rest : List Turn = replicate (c.args.repeat - (c.loop-made.made + 1)) t in
    let p = err_from_is_err_and c.from_residual.result c.from_residual.ensures.1 in
    subst (λ (r : Result ℕ Stop). IfErr r (λ e. PlaysUntil s (replicate c.args.repeat t) e new)) (sym (p.1 ∙ ap Err p.2))
    (subst (λ (ts : List Turn). PlaysUntil s ts e new) (sym (replicate_parts c.loop-made.made c.args.repeat t c.loop-made-test.true))
    (played_until s m new before (t ∷ []) rest c.args.number (g.W.Write.contents c.args.out.now) (g.W.Write.contents c.loop-made.out) c.loop-made.lacking
    e c.loop-made.invariant.plays c.in_err-more.ensures.until))

pub returns-clause-plays : goal.returns-clause-plays
returns-clause-plays g c =
    let t : Turn = record { pcb = c.args.pcb; call = c.args.call.now } in
    let all : c.loop-made.made ≡ c.args.repeat = omega (arith, c.loop-made-test.false, c.loop-made.auto.made-end) in
    subst (λ (n : ℕ). PlaysAll c.args.session.now (replicate n t) c.args.number (g.W.Write.contents c.args.out.now) (g.W.Write.contents c.loop-made.out) c.loop-made.lacking c.loop-made.session)
    all c.loop-made.invariant.plays
