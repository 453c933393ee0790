use Rattle.std.proofs.Common.{◌≡◌, ◌<◌, ℕ}
use Rattle.std.specs.List.Sorted.{IsNonDecreasing}
use Rattle.hd_volume.specs.Indexes.{IsAmong}
use Rattle.hd_check_blocks.specs.Places.{place_at}
use Rattle.hd_check_index.proofs.unnamed_roots.unnamed_root.Given as goal

-- the roots before are among the addresses
abbrev pub invariant-loop-place : goal.invariant-loop-place
invariant-loop-place l = IsNonDecreasing l.named → (j : ℕ) → j < l.place-index → (place_at l.places j).code ≡ 1 → IsAmong (place_at l.places j).address l.named
