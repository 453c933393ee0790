use Rattle.std.proofs.Common.{ℕ, ◌-◌, ◌<◌, ◌≤◌, length}
use Rattle.hd_check_index.specs.Tables.{BlocksAscend}
use Rattle.hd_check_index.specs.NotedBlocks.{noted_at}
use Rattle.hd_check_index.proofs.table.position_of.Given as goal

-- what is before the middle part has lesser numbers, and what is behind it greater ones
abbrev pub invariant-loop-low : goal.invariant-loop-low
invariant-loop-low l = record {
  order : l.low ≤ l.high;
  most : l.high ≤ length l.blocks;
  below : BlocksAscend 0 l.blocks → (j : ℕ) → j < l.low → (noted_at l.blocks j).number < l.number;
  above : BlocksAscend 0 l.blocks → (j : ℕ) → l.high ≤ j → j < length l.blocks → l.number < (noted_at l.blocks j).number;
}

abbrev pub decreases-loop-low : goal.decreases-loop-low
decreases-loop-low l = l.high - l.low
