use Rattle.std.proofs.Common.{◌≤◌, ◌<◌, ℕ, get_or}
use Rattle.hd_volume.proofs.space.lower.Given as goal

abbrev pub invariant-loop-number : goal.invariant-loop-number
invariant-loop-number l = record {
  below : (c : ℕ) → get_or l.number-items c 0 ≤ get_or l.fn.numbers.items c 0;
  done : (c : ℕ) → c < l.number-index → get_or l.number-items c 0 ≤ l.n;
}
