-- what was written is in the writer
use Rattle.std.proofs.Common.{◌≤◌, length, take}
use Rattle.std.specs.Io.KnownBytes.{Appends}
use Rattle.hd_output.proofs.pieces.write_out.Given as goal

abbrev pub invariant-writes : goal.invariant-writes
invariant-writes g l = (l.written ≤ length l.bytes) × Appends (g.W.Write.contents l.initial.out) (g.W.Write.contents l.out) (take l.written l.bytes)
