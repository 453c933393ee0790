use Rattle.std.proofs.Common.{[], map, subst, arith, length-append}
use Rattle.std.specs.Prelude.{replicate}
use Rattle.std.proofs.lemmas.List.{length-replicate}
use Rattle.hd_session.specs.Opening.{SessionState}
use Rattle.hd_session.specs.Turns.{Turn}
use Rattle.hd_serve.specs.Serves.{MakesAll}
use Rattle.hd_serve.proofs.OneRequest.{serves_made}
use Rattle.hd_serve.proofs.made_calls.make_framed.Goals as goal

pub returns-in-Ok-clause-served : goal.returns-in-Ok-clause-served
returns-in-Ok-clause-served g c =
    let s : SessionState = c.args.session.now in
    let turn : Turn = record { pcb = c.framed.inside.pcb; call = record { function = c.framed.inside.func; ssas = map (λ s. s.items) c.framed.inside.ssas.items; area = c.framed.inside.area.items } } in
    let makes : MakesAll s turn c.args.count c.in-Ok.memory c.make_calls.new.session = c.in-Ok.ensures.makes in
    record {
      count = omega (arith, c.from.ensures, length-append (replicate c.args.count c.args.framed) [], length-replicate c.args.count c.args.framed);
      few = omega (arith, c.from.ensures, c.in-Ok.ensures.few);
      serves = serves_made s c.make_calls.new.session c.args.framed c.args.count c.in-Ok.memory (g.W.Write.contents c.args.out.now)
          (subst (λ (t : Turn). MakesAll s t c.args.count c.in-Ok.memory c.make_calls.new.session) c.framed.view_is makes);
    }
