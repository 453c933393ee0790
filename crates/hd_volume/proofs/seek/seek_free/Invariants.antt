use Rattle.std.proofs.Common.{◌≡◌, ◌<◌, ◌≤◌, ℕ}
use Rattle.hd_volume.specs.Spaces.{content_at}
use Rattle.hd_volume.proofs.seek.seek_free.Given as goal

abbrev pub invariant-loop-n : goal.invariant-loop-n
invariant-loop-n l = record {
  same : l.space ≡ l.fn.space;
  passed : (m : ℕ) → 0 < m → l.fn.space.lowest_free ≤ m → m < l.n → (content_at l.fn.space m).kind ≡ 3 → ⊥;
}
