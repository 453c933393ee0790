use Rattle.std.proofs.Common.{◌<◌, ◌≤◌, ◌-◌, ℕ, List, length}
use Rattle.hd_block.specs.Extents.{Extent, IsDivided}
use Rattle.hd_block.specs.Found.{Progress, SeeksLargest}
use Rattle.hd_block.specs.Walk.{walk_parts, parts_in, HolesAreWithin}
use Rattle.hd_block.proofs.holes.largest_free.Given as goal
use Rattle.hd_dbd.specs.declared.facts.SegmentSize.{SegmentSize}

abbrev pub invariant-walk : goal.invariant-walk
invariant-walk l = record {
  end : 8 ≤ l.end;
  small : l.place < 65536;
  parts : (sizes : List SegmentSize) (b : ℕ) → l.largest ≤ b → ((more q : ℕ) → l.end ≤ q → HolesAreWithin b (walk_parts sizes l.bytes more q l.place)) → HolesAreWithin b (parts_in sizes l.bytes);
  progress : (sizes : List SegmentSize) (xs : List Extent) → IsDivided sizes l.bytes xs → (m : ℕ) × Progress sizes l.bytes (SeeksLargest l.largest xs) xs l.end l.place m;
}

abbrev pub decreases-walk : goal.decreases-walk
decreases-walk l = length l.bytes - l.end
