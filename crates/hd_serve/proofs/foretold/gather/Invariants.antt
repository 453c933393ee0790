use Rattle.std.proofs.Common.{◌≡◌, ◌-◌}
use Rattle.hd_session.specs.Turns.{Turn}
use Rattle.hd_session.specs.Foretelling.{HasOutlook}
use Rattle.hd_serve.proofs.Gathering.{Gathers}
use Rattle.hd_serve.proofs.foretold.gather.Given as goal

-- what was told so far is gathered
abbrev pub invariant-answers : goal.invariant-answers
invariant-answers g l =
    let t : Turn = record { pcb = l.pcb; call = l.call } in
    record {
      gathers : Gathers l.fn.session t l.count l.fn.line.items l.line.items l.outlook (l.count - l.counter) l.session;
      there : HasOutlook l.session.database l.session.volume l.outlook;
      room : l.io.room ≡ l.fn.io.room;
    }
