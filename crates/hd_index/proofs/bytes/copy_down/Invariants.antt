use Rattle.std.proofs.Common.{◌≡◌, ◌-◌, ◌≤◌, ℕ, IsTrue, Ok}
use Rattle.hd_bytes.specs.Ranges.{bytes_at, with_bytes}
use Rattle.hd_volume.specs.Volumes.{block_at}
use Rattle.hd_volume.specs.Calls.{IsCall}
use Rattle.hd_index.specs.Edits.{HasNewBytes}
use Rattle.hd_index.proofs.bytes.copy_down.Given as goal

abbrev pub invariant-loop-done : goal.invariant-loop-done
invariant-loop-done g l = record {
  call : IsCall {T = ℕ} l.fn.volume (Ok 0) l.volume;
  room : l.volume.room ≡ l.fn.volume.room;
  within : l.done ≤ l.len;
  copied : IsTrue l.fn.volume.is_sound → HasNewBytes l.fn.volume l.target (with_bytes (block_at l.fn.volume l.target) l.to (bytes_at (block_at l.fn.volume l.source) l.from l.done)) l.volume;
}

abbrev pub decreases-loop-done : goal.decreases-loop-done
decreases-loop-done g l = l.len - l.done
