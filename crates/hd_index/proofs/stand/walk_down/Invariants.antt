use Rattle.std.proofs.Common.{◌-◌, ℕ, IsTrue, Ok}
use Rattle.hd_volume.specs.Calls.{IsRead}
use Rattle.hd_index_blocks.specs.IndexSets.{HasIndexSet}
use Rattle.hd_index.specs.Stands.{IsStand}
use Rattle.hd_index.proofs.stand.walk_down.Given as goal

abbrev pub invariant-loop : goal.invariant-loop
invariant-loop g l = record {
  read : IsRead {T = ℕ} l.fn.volume (Ok 0) l.volume;
  stands : IsTrue l.fn.volume.is_sound → HasIndexSet l.key_length l.fn.volume → IsStand l.key_length l.fn.volume l.key l.levels l.fn.start
      → IsStand l.key_length l.fn.volume l.key (l.levels - l.counter) l.stand;
}
