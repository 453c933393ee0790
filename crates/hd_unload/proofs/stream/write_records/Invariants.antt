use Rattle.std.proofs.Common.{ℕ, IsTrue, Ok}
use Rattle.hd_dbd.specs.Forest.{Forest}
use Rattle.hd_volume.specs.Calls.{IsRead}
use Rattle.hd_links.specs.Placed.{Placed}
use Rattle.hd_image.specs.Records.{links_of}
use Rattle.hd_image.specs.Holding.{HoldsPlaced}
use Rattle.hd_forest.specs.Walks.{AreSegments}
use Rattle.hd_unload.proofs.Writing.{IsWrittenTo}
use Rattle.hd_unload.proofs.stream.write_records.Given as goal

-- the records of so many rows were written
abbrev pub invariant-loop-count : goal.invariant-loop-count
invariant-loop-count g l = record {
  read : IsRead {T = ℕ} l.fn.volume (Ok 0) l.volume;
  there : IsTrue l.fn.volume.is_sound → AreSegments (links_of l.dbd.types l.fn.volume) l.path;
  written : IsTrue l.fn.volume.is_sound → (f : Forest Placed) → HoldsPlaced l.dbd l.fn.volume f → IsWrittenTo l.dbd l.fn.volume f l.count l.path (g.W.Write.contents l.fn.out) (g.W.Write.contents l.out);
}
