use Rattle.std.proofs.Common.{◌≡◌, ◌≤◌, ◌<◌, ◌-◌, ℕ, IsTrue, Ok}
use Rattle.hd_volume.specs.Volumes.{block_at}
use Rattle.hd_volume.specs.Calls.{IsRead}
use Rattle.hd_check_blocks.specs.Phases.{IsRightBlock}
use Rattle.hd_check_blocks.specs.Places.{places_behind}
use Rattle.hd_check_blocks.proofs.blocks.blocks_fault.Given as goal

-- the blocks before n are right, and their segments are noted
abbrev pub invariant-loop-n : goal.invariant-loop-n
invariant-loop-n g l = record {
  read : IsRead {T = ℕ} l.fn.volume (Ok 0) l.volume;
  first : 1 ≤ l.n;
  right : IsTrue l.fn.volume.is_sound → (m : ℕ) → 0 < m → m < l.n → IsRightBlock l.fn.volume.sizes (block_at l.fn.volume m);
  places : IsTrue l.fn.volume.is_sound → l.places.items ≡ places_behind l.fn.volume (l.n - 1);
}
