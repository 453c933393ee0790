use Rattle.std.proofs.Common.{ℕ, Ok, IsTrue}
use Rattle.std.specs.Prelude.{All}
use Rattle.hd_volume.specs.Calls.{IsRead}
use Rattle.hd_salvage.specs.Records.{IsNoted}
use Rattle.hd_salvage.proofs.scan.scan_volume.Given as goal

-- the blocks before n are read, nothing is changed, and what is noted is of the volume
abbrev pub invariant-loop-n : goal.invariant-loop-n
invariant-loop-n g l = record {
  read : IsRead {T = ℕ} l.fn.volume (Ok 0) l.volume;
  noted : IsTrue l.fn.volume.is_sound → All (IsNoted l.fn.volume) l.records.items;
}
