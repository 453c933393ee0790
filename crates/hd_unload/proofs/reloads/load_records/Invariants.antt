use Rattle.std.proofs.Common.{◌≡◌, ◌+◌, ◌≤◌, ◌++◌, ℕ, List, length, IsTrue, Ok}
use Rattle.hd_volume.specs.Creates.{IsCreated}
use Rattle.hd_volume.specs.Calls.{IsCall}
use Rattle.hd_unload.specs.Streams.{head_bytes}
use Rattle.hd_unload.specs.Steps.{IsReadTo}
use Rattle.hd_unload.proofs.reloads.load_records.Given as goal

-- so many records were read and loaded
abbrev pub invariant-loop-count : goal.invariant-loop-count
invariant-loop-count g l = record {
  call : IsCall {T = ℕ} l.fn.volume (Ok 0) l.volume;
  short : l.count + length l.left ≤ length l.records;
  read : (stream : List ℕ) → stream ≡ head_bytes l.dbd ++ l.records → (largest : ℕ) → (IsTrue l.fn.volume.is_sound → IsCreated l.dbd.name l.dbd.block_size largest l.fn.volume)
      → IsReadTo l.dbd stream largest l.count l.left l.path l.volume;
}
