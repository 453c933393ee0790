use Rattle.std.proofs.Common.{sym}
use Rattle.hd_session.specs.Turns.{Turn, IsTurnAnswered}
use Rattle.hd_serve.proofs.OneRequest.{serves_one, made_before_write}
use Rattle.hd_serve.proofs.answered_calls.answer_call.Goals as goal

pub returns-in-Ok-clause-serves : goal.returns-in-Ok-clause-serves
returns-in-Ok-clause-serves g c =
    let turn : Turn = record { pcb = c.args.pcb; call = c.args.call.now } in
    let e = c.call-answered.ensures in
    let answered : IsTurnAnswered c.args.session.now turn c.call-answered.result c.call-answered.new.io c.call-answered.new.self =
    record { pcb = c.requires.pcb; logged = e.logged; memory = e.memory; never = e.never; same = e.same; call = e.call } in
    serves_one c.args.session.now c.call-answered.new.self turn c.call-answered.new.io c.in-Some.lacking
    (g.W.Write.contents c.args.out.now) (g.W.Write.contents c.put_outcome-written.new.out) c.call-answered.result answered (sym c.in-Some.ensures) c.in-Ok.ensures

pub returns-in-Err-clause-halts : goal.returns-in-Err-clause-halts
returns-in-Err-clause-halts g c =
    let turn : Turn = record { pcb = c.args.pcb; call = c.args.call.now } in
    let e = c.call-answered.ensures in
    made_before_write c.args.session.now c.call-answered.new.self turn c.call-answered.new.io c.in-Some.lacking c.call-answered.result
    (record { pcb = c.requires.pcb; logged = e.logged; memory = e.memory; never = e.never; same = e.same; call = e.call }) (sym c.in-Some.ensures)
