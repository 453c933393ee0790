use Rattle.std.proofs.Common.{◌≡◌, ◌+◌, ◌-◌, ℕ, IsTrue, Ok}
use Rattle.hd_volume.specs.Calls.{IsRead}
use Rattle.hd_index_blocks.specs.Ways.{leaf_of}
use Rattle.hd_index_blocks.specs.IndexSets.{index_blocks, HasIndexSet}
use Rattle.hd_index_blocks.specs.VolumeLaws.{IsRightBlock}
use Rattle.hd_index.proofs.descend.descend.Given as goal

abbrev pub invariant-loop : goal.invariant-loop
invariant-loop g l = record {
  read : IsRead {T = ℕ} l.fn.volume (Ok 0) l.volume;
  right : IsTrue l.fn.volume.is_sound → HasIndexSet l.key_length l.fn.volume → (above : ℕ) → IsRightBlock l.key_length l.fn.volume (l.levels + above) l.fn.n
      → IsRightBlock l.key_length l.fn.volume (l.levels - l.counter + above) l.below;
  same : IsTrue l.fn.volume.is_sound → HasIndexSet l.key_length l.fn.volume → (above : ℕ) → IsRightBlock l.key_length l.fn.volume (l.levels + above) l.fn.n
      → leaf_of (index_blocks l.key_length l.fn.volume) l.key (l.levels - l.counter) l.below ≡ leaf_of (index_blocks l.key_length l.fn.volume) l.key l.levels l.fn.n;
}
