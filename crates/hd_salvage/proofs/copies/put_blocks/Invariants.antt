use Rattle.std.proofs.Common.{ℕ, ◌*◌, take, Ok, IsTrue}
use Rattle.std.specs.Io.KnownBytes.{Appends}
use Rattle.hd_volume.specs.Calls.{IsRead}
use Rattle.hd_salvage.proofs.copies.put_blocks.Given as goal

-- the blocks before n are written, and nothing of the volume is changed
abbrev pub invariant-loop-n : goal.invariant-loop-n
invariant-loop-n g l = record {
  read : IsRead {T = ℕ} l.fn.volume (Ok 0) l.volume;
  blocks : IsTrue l.fn.volume.is_sound → Appends (g.W.Write.contents l.fn.out) (g.W.Write.contents l.out) (take (l.n * l.fn.volume.size) l.fn.volume.image);
}
