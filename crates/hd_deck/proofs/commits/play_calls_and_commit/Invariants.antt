use Rattle.std.proofs.Common.{◌≡◌, ◌≤◌, replicate}
use Rattle.hd_session.specs.Turns.{Turn, StaysWhole}
use Rattle.hd_deck.specs.Commits.{requests_from, PlaysRequests}
use Rattle.hd_deck.proofs.commits.play_calls_and_commit.Given as goal

-- the calls so far are played, with the commits among them, and the session is whole
abbrev pub invariant-loop-made : goal.invariant-loop-made
invariant-loop-made g l =
    let t : Turn = record { pcb = l.pcb; call = l.call } in
    record {
      plays : PlaysRequests l.fn.session (requests_from l.every l.number (replicate l.made t)) l.number (g.W.Write.contents l.fn.out) (g.W.Write.contents l.out) l.lacking l.session;
      few : l.lacking ≤ l.made;
      whole : StaysWhole l.fn.session l.session;
      room : l.io.room ≡ l.fn.io.room;
    }
