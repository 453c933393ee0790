use Rattle.std.proofs.Common.{◌≡◌, ◌≤◌, ◌<◌, ◌+◌, ℕ, slice_index}
use Rattle.hd_check_index.proofs.twice.first_twice.Given as goal

-- none but 0 stood twice side by side before
abbrev pub invariant-loop-i : goal.invariant-loop-i
invariant-loop-i l = record {
  first : 1 ≤ l.i;
  none : (j : ℕ) → j + 1 < l.i → slice_index l.names j ≡ slice_index l.names (j + 1) → slice_index l.names j ≡ 0;
}
