use Rattle.std.proofs.Common.{◌≡◌, ◌≤◌, replicate}
use Rattle.hd_session.specs.Turns.{Turn, StaysWhole}
use Rattle.hd_deck.specs.Runs.{PlaysAll}
use Rattle.hd_deck.proofs.plays.play_calls.Given as goal

-- the calls so far are played, and the session is whole
abbrev pub invariant-loop-made : goal.invariant-loop-made
invariant-loop-made g l =
    let t : Turn = record { pcb = l.pcb; call = l.call } in
    record {
      plays : PlaysAll l.fn.session (replicate l.made t) l.number (g.W.Write.contents l.fn.out) (g.W.Write.contents l.out) l.lacking l.session;
      few : l.lacking ≤ l.made;
      whole : StaysWhole l.fn.session l.session;
      committed : l.session.volume.committed ≡ l.fn.session.volume.committed;
      room : l.io.room ≡ l.fn.io.room;
    }
