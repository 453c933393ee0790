use Rattle.std.proofs.Common.{◌≡◌, ◌≤◌, ◌*◌, length, take}
use Rattle.hd_session.specs.Turns.{StaysWhole}
use Rattle.hd_deck.specs.Runs.{turns_of}
use Rattle.hd_deck.specs.Commits.{requests_from, PlaysRequests}
use Rattle.hd_deck.proofs.commits.play_and_commit_steps.Given as goal

-- the steps so far are played, with the commits among their calls, and the session is whole
abbrev pub invariant-loop-step : goal.invariant-loop-step
invariant-loop-step g l = record {
  plays : PlaysRequests l.fn.session (requests_from l.every 1 (turns_of (take l.step-index l.steps))) 1 (g.W.Write.contents l.fn.out) (g.W.Write.contents l.out) l.memory l.session;
  calls : l.calls ≡ length (turns_of (take l.step-index l.steps));
  few : l.calls ≤ 9999 * l.step-index;
  less : l.memory ≤ l.calls;
  whole : StaysWhole l.fn.session l.session;
  room : l.io.room ≡ l.fn.io.room;
}
