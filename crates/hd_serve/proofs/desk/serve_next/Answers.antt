use Rattle.std.proofs.Common.{ℕ, List, Option, Result, sym, subst}
use Rattle.std.specs.Prelude.{IfErr}
use Rattle.std.specs.Io.KnownBytes.{prepend_known}
use Rattle.hd_session.specs.Opening.{SessionState}
use Rattle.hd_serve.specs.declared.call.Limits.{Limits}
use Rattle.hd_serve.specs.declared.desk.Next.{Next}
use Rattle.hd_serve.specs.declared.desk.Stop.{Stop}
use Rattle.hd_serve.specs.declared.request.FramedRequest.TheVariants as asks
use Rattle.hd_serve.specs.Frames.{IsRequestRead}
use Rattle.hd_session.specs.Requests.{ask, make, foretell}
use Rattle.hd_serve.specs.Serves.{StopsNext}
use Rattle.hd_serve.proofs.Nexts.{stops_next}
use Rattle.hd_serve.proofs.desk.serve_next.Goals as goal

pub returns-in-Call-clause-stop : goal.returns-in-Call-clause-stop
returns-in-Call-clause-stop g c =
    let limits : Limits = c.args.desk.now.limits in
    let s : SessionState = c.args.session.now in
    let t : SessionState = c.answer_framed.new.session in
    let before : Option (List ℕ) = prepend_known c.args.desk.now.buffer (g.I.Read.remaining c.args.input.now) in
    let after : Option (List ℕ) = prepend_known c.next_request.new.self (g.I.Read.remaining c.next_request.new.input) in
    let old : Option (List ℕ) = g.W.Write.contents c.args.out.now in
    let new : Option (List ℕ) = g.W.Write.contents c.answer_framed.new.out in
    let some : IsRequestRead limits before c.in-Ok-Some.request after = rw c.in-Ok-Some.field-0-is at c.in-Ok-Some.ensures.request in
    let read : IsRequestRead limits before (asks.Call c.in-Call.call) after = rw c.in-Call.is at some in
    subst (λ (o : Result Next Stop). IfErr o (λ e. StopsNext limits s before old new e t)) (sym c.next_of.ensures)
    (stops_next limits s t before after old new (ask c.in-Call.call) read.fits read.taken c.answer_framed.result c.answer_framed.ensures.halts)

pub returns-in-Make-clause-stop : goal.returns-in-Make-clause-stop
returns-in-Make-clause-stop g c =
    let limits : Limits = c.args.desk.now.limits in
    let s : SessionState = c.args.session.now in
    let t : SessionState = c.make_framed.new.session in
    let before : Option (List ℕ) = prepend_known c.args.desk.now.buffer (g.I.Read.remaining c.args.input.now) in
    let after : Option (List ℕ) = prepend_known c.next_request.new.self (g.I.Read.remaining c.next_request.new.input) in
    let old : Option (List ℕ) = g.W.Write.contents c.args.out.now in
    let new : Option (List ℕ) = g.W.Write.contents c.make_framed.new.out in
    let some : IsRequestRead limits before c.in-Ok-Some.request after = rw c.in-Ok-Some.field-0-is at c.in-Ok-Some.ensures.request in
    let read : IsRequestRead limits before (asks.Make c.in-Make.call c.in-Make.count) after = rw c.in-Make.is at some in
    subst (λ (o : Result Next Stop). IfErr o (λ e. StopsNext limits s before old new e t)) (sym c.next_of-in-Make.ensures)
    (stops_next limits s t before after old new (make c.in-Make.call c.in-Make.count) read.fits read.taken c.make_framed.result c.make_framed.ensures.halts)

pub returns-in-Foretell-clause-stop : goal.returns-in-Foretell-clause-stop
returns-in-Foretell-clause-stop g c =
    let limits : Limits = c.args.desk.now.limits in
    let s : SessionState = c.args.session.now in
    let t : SessionState = c.answer_foretold.new.session in
    let before : Option (List ℕ) = prepend_known c.args.desk.now.buffer (g.I.Read.remaining c.args.input.now) in
    let after : Option (List ℕ) = prepend_known c.next_request.new.self (g.I.Read.remaining c.next_request.new.input) in
    let old : Option (List ℕ) = g.W.Write.contents c.args.out.now in
    let new : Option (List ℕ) = g.W.Write.contents c.answer_foretold.new.out in
    let some : IsRequestRead limits before c.in-Ok-Some.request after = rw c.in-Ok-Some.field-0-is at c.in-Ok-Some.ensures.request in
    let read : IsRequestRead limits before (asks.Foretell c.in-Foretell.call c.in-Foretell.count) after = rw c.in-Foretell.is at some in
    subst (λ (o : Result Next Stop). IfErr o (λ e. StopsNext limits s before old new e t)) (sym c.next_of-in-Foretell.ensures)
    (stops_next limits s t before after old new (foretell c.in-Foretell.call c.in-Foretell.count) read.fits read.taken c.answer_foretold.result c.answer_foretold.ensures.halts)
