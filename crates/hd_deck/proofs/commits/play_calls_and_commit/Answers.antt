use Rattle.std.proofs.Common.{◌≡◌, ℕ, ◌+◌, ◌-◌, List, [], ◌∷◌, length, replicate, Result, Err, arith, ap, sym, ◌∙◌, subst, refl}
use Rattle.std.specs.Prelude.{IfErr}
use Rattle.std.proofs.lemmas.List.{replicate_more, length-replicate}
use Rattle.std.proofs.lemmas.Result.{err_from_is_err_and}
use Rattle.hd_session.specs.Opening.{SessionState}
use Rattle.hd_session.specs.Turns.{Turn}
use Rattle.hd_session.proofs.Turns.{whole_none, whole_both}
use Rattle.hd_deck.specs.declared.plays.Stop.{Stop}
use Rattle.hd_deck.specs.Commits.{requests_from, PlaysRequests, DoesUntil}
use Rattle.hd_deck.proofs.Turns.{replicate_parts}
use Rattle.hd_deck.proofs.Requests.{requested_none, calls_both, calls_until}
use Rattle.hd_deck.proofs.commits.play_calls_and_commit.Goals as goal

pub loop-made-init : goal.loop-made-init
loop-made-init g c = record {
  plays = requested_none c.args.session.now c.args.number (g.W.Write.contents c.args.out.now) c.requires.whole;
  few = omega arith;
  whole = whole_none c.args.session.now c.requires.whole;
  room = refl;
}

pub loop-made-preserved : goal.loop-made-preserved
loop-made-preserved g c =
    let t : Turn = record { pcb = c.args.pcb; call = c.args.call.now } in
    let s : SessionState = c.args.session.now in
    let m : SessionState = c.loop-made.session in
    let new : SessionState = c.play_and_commit.new.session in
    let before : List Turn = replicate c.loop-made.made t in
    let next : c.args.number + c.from.result ≡ c.args.number + length before = omega (arith, c.from.ensures, length-replicate c.loop-made.made t) in
    record {
      plays = subst (λ (ts : List Turn). PlaysRequests s (requests_from c.args.every c.args.number ts) c.args.number (g.W.Write.contents c.args.out.now) (g.W.Write.contents c.play_and_commit.new.out) (c.loop-made.lacking + c.in_ok-more.more) new)
          (replicate_more c.loop-made.made t)
          (calls_both c.args.every s m new before (t ∷ []) c.args.number (c.args.number + c.from.result) (g.W.Write.contents c.args.out.now) (g.W.Write.contents c.loop-made.out) c.loop-made.lacking next
          c.loop-made.invariant.plays (g.W.Write.contents c.play_and_commit.new.out) c.in_ok-more.more c.in_ok-more.ensures.plays);
      few = omega (arith, c.loop-made.invariant.few, c.in_ok-more.ensures.few);
      whole = whole_both s m new c.loop-made.invariant.whole c.in_ok-more.ensures.whole;
      room = c.in_ok-more.ensures.same_room ∙ c.loop-made.invariant.room;
    }

pub returns-in_err-more-clause-until : goal.returns-in_err-more-clause-until
returns-in_err-more-clause-until g c =
    let t : Turn = record { pcb = c.args.pcb; call = c.args.call.now } in
    let s : SessionState = c.args.session.now in
    let m : SessionState = c.loop-made.session in
    let new : SessionState = c.play_and_commit.new.session in
    let e : Stop = c.in_err-more.field-0.0 in
    let repeat : ℕ = c.args.repeat in
    let before : List Turn = replicate c.loop-made.made t in
    let rest : List Turn = replicate (repeat - (c.loop-made.made + 1)) t in
    let next : c.args.number + c.from.result ≡ c.args.number + length before = omega (arith, c.from.ensures, length-replicate c.loop-made.made t) in
    let p = err_from_is_err_and c.from_residual.result c.from_residual.ensures.1 in
    subst (λ (r : Result ℕ Stop). IfErr r (λ e. DoesUntil s (requests_from c.args.every c.args.number (replicate repeat t)) e new)) (sym (p.1 ∙ ap Err p.2))
    (subst (λ (ts : List Turn). DoesUntil s (requests_from c.args.every c.args.number ts) e new) (sym (replicate_parts c.loop-made.made repeat t c.loop-made-test.true))
    (calls_until c.args.every s m new before (t ∷ []) c.args.number (c.args.number + c.from.result) (g.W.Write.contents c.args.out.now) (g.W.Write.contents c.loop-made.out) c.loop-made.lacking next
    c.loop-made.invariant.plays rest e c.in_err-more.ensures.until))

pub returns-clause-plays : goal.returns-clause-plays
returns-clause-plays g c =
    let t : Turn = record { pcb = c.args.pcb; call = c.args.call.now } in
    let all : c.loop-made.made ≡ c.args.repeat = omega (arith, c.loop-made-test.false, c.loop-made.auto.made-end) in
    subst (λ (n : ℕ). PlaysRequests c.args.session.now (requests_from c.args.every c.args.number (replicate n t)) c.args.number (g.W.Write.contents c.args.out.now) (g.W.Write.contents c.loop-made.out) c.loop-made.lacking c.loop-made.session)
    all c.loop-made.invariant.plays
