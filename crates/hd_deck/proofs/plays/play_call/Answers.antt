use Rattle.std.proofs.Common.{◌++◌, sym, subst}
use Rattle.std.specs.Io.KnownBytes.{Appends}
use Rattle.hd_dbd.specs.Calls.{CallText}
use Rattle.hd_session.specs.Turns.{Turn, IsTurnAnswered}
use Rattle.hd_deck.specs.Printing.{head_text, answered_text}
use Rattle.hd_deck.proofs.Calls.{plays_one, made_before_write}
use Rattle.hd_deck.proofs.plays.play_call.Goals as goal

pub returns-in-Ok-clause-plays : goal.returns-in-Ok-clause-plays
returns-in-Ok-clause-plays g c =
    let turn : Turn = record { pcb = c.args.pcb; call = c.args.call.now } in
    let e = c.call-answered.ensures in
    let answered : IsTurnAnswered c.args.session.now turn c.call-answered.result c.call-answered.new.io c.call-answered.new.self =
    record { pcb = c.requires.pcb; logged = e.logged; memory = e.memory; never = e.never; same = e.same; call = e.call } in
    plays_one c.args.session.now c.call-answered.new.self turn c.call-answered.new.io c.args.number c.in-Some.lacking
    (g.W.Write.contents c.args.out.now) (g.W.Write.contents c.print_outcome-printed.new.out) c.call-answered.result answered (sym c.in-Some.ensures)
    (subst (λ (t : CallText). Appends (g.W.Write.contents c.args.out.now) (g.W.Write.contents c.print_outcome-printed.new.out)
    (head_text c.args.number c.args.pcb t.function ++ answered_text c.call-answered.result c.call-answered.new.io)) c.call.view_is c.in-Ok.ensures)

pub returns-in-Err-clause-until : goal.returns-in-Err-clause-until
returns-in-Err-clause-until g c =
    let turn : Turn = record { pcb = c.args.pcb; call = c.args.call.now } in
    let e = c.call-answered.ensures in
    made_before_write c.args.session.now c.call-answered.new.self turn c.call-answered.new.io c.in-Some.lacking c.call-answered.result
    (record { pcb = c.requires.pcb; logged = e.logged; memory = e.memory; never = e.never; same = e.same; call = e.call }) (sym c.in-Some.ensures)
