use Rattle.std.proofs.Common.{map, refl, subst}
use Rattle.hd_session.specs.Turns.{Turn}
use Rattle.hd_session.specs.Requests.{ask}
use Rattle.hd_serve.specs.Serves.{IsServed}
use Rattle.hd_serve.proofs.answered_calls.answer_framed.Goals as goal

pub returns-in-Ok-clause-served : goal.returns-in-Ok-clause-served
returns-in-Ok-clause-served g c =
    let turn : Turn = record { pcb = c.framed.inside.pcb; call = record { function = c.framed.inside.func; ssas = map (λ s. s.items) c.framed.inside.ssas.items; area = c.framed.inside.area.items } } in
    subst (λ (t : Turn). IsServed c.args.session.now (ask t) (g.W.Write.contents c.args.out.now) (g.W.Write.contents c.answer_call.new.out) 1 c.in-Ok.lacking c.answer_call.new.session) c.framed.view_is
    (record { count = refl; few = c.in-Ok.ensures.few; serves = c.in-Ok.ensures.serves })
