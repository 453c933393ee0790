use Rattle.std.proofs.Common.{◌≡◌, ◌+◌, ◌≤◌, ◌<◌, ℕ, IsTrue, Ok}
use Rattle.hd_volume.specs.Headers.{header_of}
use Rattle.hd_volume.specs.Calls.{IsCall}
use Rattle.hd_index_blocks.specs.IndexSets.{index_entries}
use Rattle.hd_index_blocks.specs.Needs.{needed_by}
use Rattle.hd_index.specs.Changes.{IsChanged}
use Rattle.hd_index.specs.Rooms.{IsReady}
use Rattle.hd_index.proofs.insertion.make_rooms.Given as goal

abbrev pub invariant-loop : goal.invariant-loop
invariant-loop g l = record {
  call : IsCall {T = ℕ} l.fn.volume (Ok 0) l.volume;
  room : IsTrue l.volume.is_sound → l.fn.volume.room ≤ l.volume.room + l.counter;
  changed : IsTrue l.fn.volume.is_sound → IsChanged l.key_length l.fn.volume (index_entries l.key_length l.fn.volume) l.counter l.volume;
  some : IsTrue l.fn.volume.is_sound → 0 < (header_of l.volume.image).top;
  needed : IsTrue l.fn.volume.is_sound → needed_by l.key_length l.volume l.by + l.counter ≡ needed_by l.key_length l.fn.volume l.by;
  ready : IsTrue l.fn.volume.is_sound → IsReady (needed_by l.key_length l.volume l.by) l.volume;
}
