use Rattle.std.proofs.Common.{◌≡◌, ◌-◌, IsTrue}
use Rattle.hd_journal.specs.Log.{through}
use Rattle.hd_journal.proofs.finding.read_through.Given as goal

abbrev pub invariant-loop : goal.invariant-loop
invariant-loop g l =
    (l.head.size ≡ l.fn.first.size)
    × (IsTrue g.D.Disk.is_honest → through l.fn.log_len (g.D.Disk.state l.disk).log l.fn.first ≡ through (l.fn.log_len - l.counter) (g.D.Disk.state l.disk).log l.head)
