use Rattle.std.proofs.Common.{◌≡◌, ℕ, ◌≤◌, List, [], Option, Result, Err, arith, ap, sym, ◌∙◌, subst, refl}
use Rattle.std.specs.Prelude.{IfErr}
use Rattle.std.specs.Io.KnownBytes.{prepend_known}
use Rattle.std.proofs.lemmas.Result.{err_from_is_err_and}
use Rattle.hd_session.specs.Opening.{SessionState}
use Rattle.hd_session.proofs.Turns.{whole_none, whole_both}
use Rattle.hd_serve.specs.declared.call.Limits.{Limits}
use Rattle.hd_serve.specs.declared.answered_calls.Count.{Count}
use Rattle.hd_serve.specs.declared.desk.Ending.{Ending}
use Rattle.hd_serve.specs.declared.desk.Next.TheVariants as next
use Rattle.hd_serve.specs.declared.desk.Stop.{Stop}
use Rattle.hd_serve.specs.Serves.{ComesTo, IsServedNext, EndsBy, StopsNext, IsServedToTheEnd, ServesUntil}
use Rattle.hd_serve.proofs.SoFar.{none_so_far, calls_few, one_more, to_the_end, until_stop, without_end}
use Rattle.hd_serve.proofs.desk.serve_requests.Goals as goal

pub requests-init : goal.requests-init
requests-init g c = record {
  so_far = none_so_far c.args.desk.now.limits c.args.session.now (prepend_known c.args.desk.now.buffer (g.I.Read.remaining c.args.input.now)) (g.W.Write.contents c.args.out.now) c.requires.whole;
  few = omega arith;
  most = omega arith;
  whole = whole_none c.args.session.now c.requires.whole;
  limits = refl;
  room = refl;
}

pub requests-preserved : goal.requests-preserved
requests-preserved g c =
    let s : SessionState = c.args.session.now in
    let m : SessionState = c.requests.session in
    let t : SessionState = c.serve_next.new.session in
    let limits : Limits = c.args.desk.now.limits in
    let same : c.requests.desk.limits ≡ limits = c.requests.invariant.limits in
    let input : Option (List ℕ) = prepend_known c.args.desk.now.buffer (g.I.Read.remaining c.args.input.now) in
    let left : Option (List ℕ) = prepend_known c.requests.desk.buffer (g.I.Read.remaining c.requests.input) in
    let old : Option (List ℕ) = g.W.Write.contents c.args.out.now in
    let mid : Option (List ℕ) = g.W.Write.contents c.requests.out in
    let new : Option (List ℕ) = g.W.Write.contents c.serve_next.new.out in
    let after : Option (List ℕ) = prepend_known c.serve_next.new.desk.buffer (g.I.Read.remaining c.serve_next.new.input) in
    let n : Count = c.in-Served.count in
    let comes : ComesTo c.requests.desk.limits m left after mid new (next.Served n) t = rw c.in-Served.is at c.in_ok-count.ensures.next in
    let then : IsServedNext limits m left after mid new n.calls n.memory t = subst (λ (x : Limits). IsServedNext x m left after mid new n.calls n.memory t) same comes in
    let few : n.memory ≤ n.calls = then.served.few in
    let some : n.calls ≤ 255 = calls_few limits then.request n.calls then.right then.served.count in
    record {
      so_far = one_more limits s m t input left old mid new c.requests.calls c.requests.memory c.requests.invariant.so_far after n.calls n.memory then;
      few = omega (arith, few, c.requests.invariant.few);
      most = omega (arith, some, c.requests.invariant.most);
      whole = whole_both s m t c.requests.invariant.whole c.in_ok-count.ensures.whole;
      limits = c.serve_next.ensures.same.0 ∙ same;
      room = c.serve_next.ensures.same.1 ∙ c.requests.invariant.room;
    }

pub returns-in_err-count-clause-until : goal.returns-in_err-count-clause-until
returns-in_err-count-clause-until g c =
    let s : SessionState = c.args.session.now in
    let m : SessionState = c.requests.session in
    let t : SessionState = c.serve_next.new.session in
    let limits : Limits = c.args.desk.now.limits in
    let same : c.requests.desk.limits ≡ limits = c.requests.invariant.limits in
    let input : Option (List ℕ) = prepend_known c.args.desk.now.buffer (g.I.Read.remaining c.args.input.now) in
    let left : Option (List ℕ) = prepend_known c.requests.desk.buffer (g.I.Read.remaining c.requests.input) in
    let old : Option (List ℕ) = g.W.Write.contents c.args.out.now in
    let mid : Option (List ℕ) = g.W.Write.contents c.requests.out in
    let new : Option (List ℕ) = g.W.Write.contents c.serve_next.new.out in
    let e : Stop = c.in_err-count.field-0.0 in
    let stops : StopsNext limits m left mid new e t = subst (λ (x : Limits). StopsNext x m left mid new e t) same c.in_err-count.ensures.stop in
    let p = err_from_is_err_and c.from_residual.result c.from_residual.ensures.1 in
    subst (λ (r : Result _ Stop). IfErr r (λ x. ServesUntil limits s input [] old new x t)) (sym (p.1 ∙ ap Err p.2))
    (until_stop limits s m t input left old mid new c.requests.calls c.requests.memory c.requests.invariant.so_far e stops)

pub returns-in-Ends-clause-serves : goal.returns-in-Ends-clause-serves
returns-in-Ends-clause-serves g c =
    let s : SessionState = c.args.session.now in
    let m : SessionState = c.requests.session in
    let t : SessionState = c.serve_next.new.session in
    let limits : Limits = c.args.desk.now.limits in
    let same : c.requests.desk.limits ≡ limits = c.requests.invariant.limits in
    let input : Option (List ℕ) = prepend_known c.args.desk.now.buffer (g.I.Read.remaining c.args.input.now) in
    let left : Option (List ℕ) = prepend_known c.requests.desk.buffer (g.I.Read.remaining c.requests.input) in
    let old : Option (List ℕ) = g.W.Write.contents c.args.out.now in
    let mid : Option (List ℕ) = g.W.Write.contents c.requests.out in
    let new : Option (List ℕ) = g.W.Write.contents c.serve_next.new.out in
    let after : Option (List ℕ) = prepend_known c.serve_next.new.desk.buffer (g.I.Read.remaining c.serve_next.new.input) in
    let e : Ending = c.in-Ends.ending in
    let ends : EndsBy e left after × (t ≡ m) × (new ≡ mid) = rw c.in-Ends.is at c.in_ok-count.ensures.next in
    subst (λ (r : SessionState). IsServedToTheEnd limits s e input after [] old new c.requests.calls c.requests.memory r) (sym ends.1)
    (subst (λ (o : Option (List ℕ)). IsServedToTheEnd limits s e input after [] old o c.requests.calls c.requests.memory m) (sym ends.2)
    (to_the_end limits s m t input left old mid new c.requests.calls c.requests.memory c.requests.invariant.so_far e after ends.0))

pub returns-clause-until : goal.returns-clause-until
returns-clause-until g c =
    without_end c.args.desk.now.limits c.args.session.now c.requests.session c.requests.session (prepend_known c.args.desk.now.buffer (g.I.Read.remaining c.args.input.now))
    (prepend_known c.requests.desk.buffer (g.I.Read.remaining c.requests.input)) (g.W.Write.contents c.args.out.now) (g.W.Write.contents c.requests.out) (g.W.Write.contents c.requests.out)
    c.requests.calls c.requests.memory c.requests.invariant.so_far
