use Rattle.std.proofs.Common.{◌<◌, ◌≤◌, length}
use Rattle.hd_dbd.specs.Hierarchy.{longest_path}
use Rattle.hd_session_tests.proofs.session_act.make_all.Given as goal

-- the session has a PCB, and the I/O area has room for its rows
abbrev pub invariant-loop-step : goal.invariant-loop-step
invariant-loop-step g l = (0 < length l.session.pcbs) × (longest_path l.session.database.types ≤ l.io.room)
