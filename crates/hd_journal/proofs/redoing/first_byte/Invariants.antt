use Rattle.std.proofs.Common.{◌≡◌, ◌≢◌, ◌<◌, ℕ, None, IsTrue, IfSome}
use Rattle.hd_journal.specs.Log.{block_no, HasFirst}
use Rattle.hd_journal.proofs.redoing.first_byte.Given as goal

abbrev pub invariant-loop-i : goal.invariant-loop-i
invariant-loop-i g l = record {
  first : IfSome l.found (λ byte. IsTrue g.D.Disk.is_honest → HasFirst l.head.size (g.D.Disk.state l.disk).log l.i byte);
  none : l.found ≡ None → IsTrue g.D.Disk.is_honest → (k : ℕ) → k < l.i → block_no l.head.size (g.D.Disk.state l.disk).log k ≢ 0;
}
