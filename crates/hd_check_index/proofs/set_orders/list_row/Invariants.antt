use Rattle.std.proofs.Common.{◌≡◌, ◌≤◌, ℕ, List, IsTrue, Ok, length}
use Rattle.hd_volume.specs.Calls.{IsRead}
use Rattle.hd_index_blocks.specs.Levels.{across}
use Rattle.hd_index_blocks.specs.IndexSets.{index_blocks}
use Rattle.hd_check_index.specs.Rows.{row_of}
use Rattle.hd_check_index.specs.BlockExtents.{AreBelow}
use Rattle.hd_check_index.specs.Listed.{AtAddress, AreOrdersListed}
use Rattle.hd_check_index.proofs.RowOrders.{IsSeen}
use Rattle.hd_check_index.proofs.set_orders.list_row.Given as goal

-- the blocks before are judged, and what is out of order in them is listed
abbrev pub invariant-loop-block : goal.invariant-loop-block
invariant-loop-block g l = record {
  read : IsRead {T = ℕ} l.fn.volume (Ok 0) l.volume;
  within : l.place ≤ length l.below;
  seen : IsTrue l.fn.volume.is_sound → (ns : List ℕ) → l.row ≡ row_of l.level ns
      → AreBelow l.key_length (index_blocks l.key_length l.fn.volume) l.level (across (index_blocks l.key_length l.fn.volume) ns) l.below
      → IsSeen l.key_length (index_blocks l.key_length l.fn.volume) l.level ns l.block-index l.below l.own.items l.left l.place (λ P. AreOrdersListed (AtAddress l.size P) l.fn.faults.items l.faults.items);
}
