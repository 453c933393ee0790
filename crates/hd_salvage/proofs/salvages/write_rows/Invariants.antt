use Rattle.std.proofs.Common.{ℕ, Ok, IsTrue}
use Rattle.hd_volume.specs.Calls.{IsRead}
use Rattle.hd_salvage.specs.Streams.{KeepsOn}
use Rattle.hd_salvage.proofs.salvages.write_rows.Given as goal

-- nothing of the volume is changed, and so many rows are kept
abbrev pub invariant-loop-turn : goal.invariant-loop-turn
invariant-loop-turn g l = record {
  read : IsRead {T = ℕ} l.fn.volume (Ok 0) l.volume;
  kept : IsTrue l.fn.volume.is_sound
      → KeepsOn l.dbd l.fn.volume (g.W.Write.contents l.fn.out) l.fn.path l.fn.marks.items 0 (g.W.Write.contents l.out) l.path l.marks.items l.count;
}
