use Rattle.std.proofs.Common.{◌≡◌, ◌+◌, IsTrue, List, ℕ, length}
use Rattle.hd_journal.specs.States.{IsSparing, PutsFrames, Redoes}
use Rattle.hd_journal.proofs.redoing.copy.Given as goal

abbrev pub invariant-loop-i : goal.invariant-loop-i
invariant-loop-i g l =
    (IsTrue (g.D.Disk.is_usable l.disk)) × (length l.frame ≡ l.head.size + 4)
    × (IsTrue g.D.Disk.is_honest → (g.D.Disk.state l.disk).log ≡ (g.D.Disk.state l.fn.disk).log)
    × (IsTrue g.D.Disk.is_honest → PutsFrames l.head l.is_shut 0 l.i (g.D.Disk.state l.fn.disk) (g.D.Disk.state l.disk))
    × (IsTrue g.D.Disk.is_honest → (first : List ℕ) → IsSparing l.head l.is_shut first (g.D.Disk.state l.fn.disk) → Redoes l.head l.is_shut first (g.D.Disk.state l.fn.disk) (g.D.Disk.state l.disk))
