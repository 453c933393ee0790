use Rattle.std.proofs.Common.{◌≡◌, ◌-◌, ℕ, ◌<◌, ◌≤◌}
use Rattle.hd_check_index.specs.EntryOrders.{standing_at}
use Rattle.hd_check_index.proofs.rows.row_start.Given as goal

-- the blocks from here on are of one level
abbrev pub invariant-loop-start : goal.invariant-loop-start
invariant-loop-start l = record {
  before : l.start < l.end;
  same : (i : ℕ) → l.start ≤ i → i < l.end → (standing_at l.rows i).level ≡ (standing_at l.rows (l.end - 1)).level;
}

abbrev pub decreases-loop-start : goal.decreases-loop-start
decreases-loop-start l = l.start
