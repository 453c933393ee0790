use Rattle.std.proofs.Common.{◌-◌, ℕ, IsTrue, Ok, ◌≡◌}
use Rattle.hd_dbd.specs.Forest.{Forest}
use Rattle.hd_volume.specs.Calls.{IsCall}
use Rattle.hd_links.specs.Placed.{Placed}
use Rattle.hd_image.specs.Records.{links_of, IsVolumeOf}
use Rattle.hd_forest.specs.Sets.{KeepsBlocks}
use Rattle.hd_forest.specs.Spans.{IsSpan}
use Rattle.hd_forest.proofs.FreeSpans.{InSpan}
use Rattle.hd_forest.proofs.SpanStarts.{span_of}
use Rattle.hd_forest.proofs.unlink.free_span.Given as goal

abbrev pub invariant-loop : goal.invariant-loop
invariant-loop g l = record {
  call : IsCall {T = ℕ} l.fn.volume (Ok 0) l.volume;
  room : l.volume.room ≡ l.fn.volume.room;
  volume_is : IsTrue l.fn.volume.is_sound → IsVolumeOf l.dbd l.volume;
  keeps : IsTrue l.fn.volume.is_sound → KeepsBlocks l.fn.volume l.volume;
  left : IsTrue l.fn.volume.is_sound → (under : Forest Placed) → IsSpan l.dbd.types (links_of l.dbd.types l.fn.volume) l.address under
      → InSpan l.dbd.types (links_of l.dbd.types l.fn.volume) (span_of l.address under) (l.most - l.counter) (record { path = l.path; down = l.down; records = links_of l.dbd.types l.volume });
}
