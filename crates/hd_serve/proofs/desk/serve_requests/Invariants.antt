use Rattle.std.proofs.Common.{◌≡◌, ◌*◌, ◌≤◌}
use Rattle.std.specs.Io.KnownBytes.{prepend_known}
use Rattle.hd_session.specs.Turns.{StaysWhole}
use Rattle.hd_serve.proofs.SoFar.{AreServedSoFar}
use Rattle.hd_serve.proofs.desk.serve_requests.Given as goal

-- the requests so far are served, and the session is whole
abbrev pub invariant-requests : goal.invariant-requests
invariant-requests g l = record {
  so_far : AreServedSoFar l.fn.desk.limits l.fn.session (prepend_known l.fn.desk.buffer (g.I.Read.remaining l.fn.input)) (prepend_known l.desk.buffer (g.I.Read.remaining l.input))
      (g.W.Write.contents l.fn.out) (g.W.Write.contents l.out) l.calls l.memory l.session;
  few : l.memory ≤ l.calls;
  most : l.calls ≤ l.counter * 255;
  whole : StaysWhole l.fn.session l.session;
  limits : l.desk.limits ≡ l.fn.desk.limits;
  room : l.desk.io.room ≡ l.fn.desk.io.room;
}
