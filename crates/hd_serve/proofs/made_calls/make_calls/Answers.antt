use Rattle.std.proofs.Common.{◌≡◌, ℕ, arith, ◌∙◌, subst, refl}
use Rattle.hd_session.specs.Opening.{SessionState}
use Rattle.hd_session.specs.Turns.{Turn}
use Rattle.hd_session.proofs.Turns.{whole_none, whole_both}
use Rattle.hd_serve.specs.Serves.{IsMadeOnce, MakesAll}
use Rattle.hd_serve.proofs.OneRequest.{makes_no_time, makes_once_more}
use Rattle.hd_serve.proofs.made_calls.make_calls.Goals as goal

pub loop-made-init : goal.loop-made-init
loop-made-init g c = record {
  makes = makes_no_time c.args.session.now (record { pcb = c.args.pcb; call = c.args.call.now }) c.requires.whole;
  few = omega arith;
  whole = whole_none c.args.session.now c.requires.whole;
  committed = refl;
  room = refl;
}

pub loop-made-preserved : goal.loop-made-preserved
loop-made-preserved g c =
    let t : Turn = record { pcb = c.args.pcb; call = c.args.call.now } in
    let s : SessionState = c.args.session.now in
    let m : SessionState = c.loop-made.session in
    let new : SessionState = c.make_call.new.session in
    let once : IsMadeOnce m t c.in_ok-more.more new = c.in_ok-more.ensures.makes in
    record {
      makes = makes_once_more s m new t once.bytes c.loop-made.made c.loop-made.memory c.in_ok-more.more c.loop-made.invariant.makes once.result once.answered once.memory;
      few = omega (arith, c.loop-made.invariant.few, c.in_ok-more.ensures.few);
      whole = whole_both s m new c.loop-made.invariant.whole c.in_ok-more.ensures.whole;
      committed = c.make_call.ensures.committed ∙ c.loop-made.invariant.committed;
      room = c.make_call.ensures.same_room ∙ c.loop-made.invariant.room;
    }

pub returns-clause-makes : goal.returns-clause-makes
returns-clause-makes g c =
    let t : Turn = record { pcb = c.args.pcb; call = c.args.call.now } in
    let all : c.loop-made.made ≡ c.args.count = omega (arith, c.loop-made-test.false, c.loop-made.auto.made-end) in
    subst (λ (n : ℕ). MakesAll c.args.session.now t n c.loop-made.memory c.loop-made.session) all c.loop-made.invariant.makes
