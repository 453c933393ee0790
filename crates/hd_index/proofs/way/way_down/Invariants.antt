use Rattle.std.proofs.Common.{◌-◌, ℕ, IsTrue, Ok}
use Rattle.hd_volume.specs.Calls.{IsRead}
use Rattle.hd_index_blocks.specs.IndexSets.{index_blocks, HasIndexSet}
use Rattle.hd_index.specs.Removals.{IsThin, IsOnWayIn}
use Rattle.hd_index.proofs.Forks.{IsForkOver}
use Rattle.hd_index.proofs.way.way_down.Given as goal

abbrev pub invariant-loop-steps : goal.invariant-loop-steps
invariant-loop-steps g l = record {
  read : IsRead {T = ℕ} l.fn.volume (Ok 0) l.volume;
  way : IsTrue l.fn.volume.is_sound → HasIndexSet l.key_length l.fn.volume → IsOnWayIn l.key_length l.fn.volume l.key l.levels l.fn.start
      → IsOnWayIn l.key_length l.fn.volume l.key (l.levels - l.steps) l.stand;
  fork : IsTrue l.fn.volume.is_sound → HasIndexSet l.key_length l.fn.volume → IsOnWayIn l.key_length l.fn.volume l.key l.levels l.fn.start
      → IsForkOver l.key_length l.fn.volume l.key l.levels l.fn.start.block (IsThin (index_blocks l.key_length l.fn.volume) (l.levels - l.steps) l.stand.block) l.fork;
}
