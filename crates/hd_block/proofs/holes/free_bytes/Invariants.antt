use Rattle.std.proofs.Common.{◌<◌, ◌≤◌, ◌-◌, ℕ, List, length}
use Rattle.hd_block.specs.Extents.{Extent, IsDivided}
use Rattle.hd_block.specs.Found.{Progress, SumsFree}
use Rattle.hd_block.proofs.holes.free_bytes.Given as goal
use Rattle.hd_dbd.specs.declared.facts.SegmentSize.{SegmentSize}

abbrev pub invariant-walk : goal.invariant-walk
invariant-walk l = record {
  end : 8 ≤ l.end;
  small : l.place < 65536;
  progress : (sizes : List SegmentSize) (xs : List Extent) → IsDivided sizes l.bytes xs → (m : ℕ) × Progress sizes l.bytes (SumsFree l.total xs) xs l.end l.place m;
}

abbrev pub decreases-walk : goal.decreases-walk
decreases-walk l = length l.bytes - l.end
