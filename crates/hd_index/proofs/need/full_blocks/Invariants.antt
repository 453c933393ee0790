use Rattle.std.proofs.Common.{◌≡◌, ◌-◌, ◌≤◌, ℕ, IsTrue, Ok}
use Rattle.hd_volume.specs.Calls.{IsRead}
use Rattle.hd_volume.specs.Indexes.{entry_room}
use Rattle.hd_index_blocks.specs.IndexSets.{index_blocks, HasIndexSet}
use Rattle.hd_index_blocks.specs.Needs.{full_blocks}
use Rattle.hd_index_blocks.specs.VolumeLaws.{IsRightBlock}
use Rattle.hd_index.proofs.Filling.{with_run}
use Rattle.hd_index.proofs.need.full_blocks.Given as goal

abbrev pub invariant-loop : goal.invariant-loop
invariant-loop g l = record {
  read : IsRead {T = ℕ} l.fn.volume (Ok 0) l.volume;
  few : l.run ≤ l.counter;
  right : IsTrue l.fn.volume.is_sound → HasIndexSet l.key_length l.fn.volume → IsRightBlock l.key_length l.fn.volume l.levels l.fn.n
      → IsRightBlock l.key_length l.fn.volume (l.levels - l.counter) l.below;
  same : IsTrue l.fn.volume.is_sound → HasIndexSet l.key_length l.fn.volume → IsRightBlock l.key_length l.fn.volume l.levels l.fn.n
      → with_run (full_blocks (index_blocks l.key_length l.fn.volume) (entry_room l.key_length l.fn.volume.size) l.key (l.levels - l.counter) l.below) (l.levels - l.counter) l.run
      ≡ full_blocks (index_blocks l.key_length l.fn.volume) (entry_room l.key_length l.fn.volume.size) l.key l.levels l.fn.n;
}
