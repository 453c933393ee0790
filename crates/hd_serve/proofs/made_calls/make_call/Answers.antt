use Rattle.std.proofs.Common.{sym}
use Rattle.hd_serve.proofs.made_calls.make_call.Goals as goal

pub returns-in-Some-clause-makes : goal.returns-in-Some-clause-makes
returns-in-Some-clause-makes g c =
    let e = c.call-answered.ensures in
    record {
      result = c.call-answered.result;
      bytes = c.call-answered.new.io;
      answered = record { pcb = c.requires.pcb; logged = e.logged; memory = e.memory; never = e.never; same = e.same; call = e.call };
      memory = sym c.in-Some.ensures;
    }
