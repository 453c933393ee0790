use Rattle.std.proofs.Common.{◌≡◌, ◌≤◌}
use Rattle.hd_session.specs.Turns.{Turn, StaysWhole}
use Rattle.hd_serve.specs.Serves.{MakesAll}
use Rattle.hd_serve.proofs.made_calls.make_calls.Given as goal

-- the calls so far are made, and the session is whole
abbrev pub invariant-loop-made : goal.invariant-loop-made
invariant-loop-made g l =
    let t : Turn = record { pcb = l.pcb; call = l.call } in
    record {
      makes : MakesAll l.fn.session t l.made l.memory l.session;
      few : l.memory ≤ l.made;
      whole : StaysWhole l.fn.session l.session;
      committed : l.session.volume.committed ≡ l.fn.session.volume.committed;
      room : l.io.room ≡ l.fn.io.room;
    }
