use Rattle.std.proofs.Common.{◌<◌, ◌≤◌, ◌+◌, ◌-◌, ◌≡◌, ◌⊎◌, List, length}
use Rattle.hd_block.specs.Extents.{Extent, IsDivided}
use Rattle.hd_block.specs.Found.{Progress, SeeksHole}
use Rattle.hd_block.proofs.holes.find_hole.Given as goal
use Rattle.hd_dbd.specs.declared.facts.SegmentSize.{SegmentSize}

abbrev pub invariant-walk : goal.invariant-walk
invariant-walk l = record {
  link : l.link + 2 ≤ length l.bytes;
  head : (8 ≤ l.link) ⊎ (l.link ≡ 0);
  end : 8 ≤ l.end;
  small : l.place < 65536;
  progress : (sizes : List SegmentSize) (xs : List Extent) → IsDivided sizes l.bytes xs → Progress sizes l.bytes (SeeksHole l.size xs) xs l.end l.place l.link;
}

abbrev pub decreases-walk : goal.decreases-walk
decreases-walk l = length l.bytes - l.end
