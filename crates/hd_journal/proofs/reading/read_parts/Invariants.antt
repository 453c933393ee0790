use Rattle.std.proofs.Common.{◌≡◌, ◌+◌, ◌*◌, ◌<◌, ℕ, IsTrue, length, slice_index}
use Rattle.hd_journal.specs.Log.{image}
use Rattle.hd_journal.proofs.reading.read_parts.Given as goal

abbrev pub invariant-loop-i : goal.invariant-loop-i
invariant-loop-i g l = record {
  len : length l.buf ≡ length l.fn.buf;
  read : IsTrue g.D.Disk.is_honest → (k : ℕ) → k < l.i * l.head.size → k < length l.fn.buf → slice_index l.buf k ≡ slice_index (image l.head (g.D.Disk.state l.disk).log (g.D.Disk.state l.disk).volume) (l.n * l.head.size + k);
}
