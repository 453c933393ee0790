use Rattle.std.proofs.Common.{◌<◌, ◌≤◌, ◌+◌, ◌-◌, ◌≡◌, ◌⊎◌, ℕ, List}
use Rattle.hd_block.specs.Extents.{Extent, IsDivided}
use Rattle.hd_block.specs.Found.{At, Progress, SeeksOffset}
use Rattle.hd_block.proofs.gives.find_link.Given as goal
use Rattle.hd_dbd.specs.declared.facts.SegmentSize.{SegmentSize}

abbrev pub invariant-walk : goal.invariant-walk
invariant-walk l = record {
  link : l.link < l.offset;
  head : (8 ≤ l.link) ⊎ (l.link ≡ 0);
  end : (8 ≤ l.end) × (l.end ≤ l.offset + 8);
  progress : (sizes : List SegmentSize) (xs : List Extent) (n : ℕ) → IsDivided sizes l.bytes xs → At 8 xs l.offset n → Progress sizes l.bytes (SeeksOffset l.offset n) xs l.end l.next l.link;
}

abbrev pub decreases-walk : goal.decreases-walk
decreases-walk l = l.offset + 8 - l.end
