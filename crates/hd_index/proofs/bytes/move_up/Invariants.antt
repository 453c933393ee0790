use Rattle.std.proofs.Common.{◌≡◌, ◌-◌, ◌+◌, ◌≤◌, ℕ, IsTrue, Ok}
use Rattle.hd_bytes.specs.Ranges.{bytes_at, with_bytes}
use Rattle.hd_volume.specs.Volumes.{block_at}
use Rattle.hd_volume.specs.Calls.{IsCall}
use Rattle.hd_index.specs.Edits.{HasNewBytes}
use Rattle.hd_index.proofs.bytes.move_up.Given as goal

abbrev pub invariant-loop-left : goal.invariant-loop-left
invariant-loop-left g l = record {
  call : IsCall {T = ℕ} l.fn.volume (Ok 0) l.volume;
  room : l.volume.room ≡ l.fn.volume.room;
  within : l.left ≤ l.len;
  moved : IsTrue l.fn.volume.is_sound → HasNewBytes l.fn.volume l.n (with_bytes (block_at l.fn.volume l.n) (l.to + l.left) (bytes_at (block_at l.fn.volume l.n) (l.from + l.left) (l.len - l.left))) l.volume;
}

abbrev pub decreases-loop-left : goal.decreases-loop-left
decreases-loop-left g l = l.left
