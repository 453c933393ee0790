use Rattle.std.proofs.Common.{ℕ, IsTrue, Ok}
use Rattle.hd_volume.specs.Indexes.{root_key_length}
use Rattle.hd_volume.specs.Calls.{IsRead}
use Rattle.hd_check_index.specs.LeftKeys.{IsLeft}
use Rattle.hd_check_index.proofs.OrderSteps.{left-of}
use Rattle.hd_check_index.proofs.ChainOrders.{AreOrdersTo}
use Rattle.hd_check_index.proofs.entry_order.entry_order_faults.Given as goal

-- the blocks before with an entry out of order are listed, and the key of their last entry is kept
abbrev pub invariant-loop-n : goal.invariant-loop-n
invariant-loop-n g l = record {
  read : IsRead {T = ℕ} l.fn.volume (Ok 0) l.volume;
  left : IsTrue l.fn.volume.is_sound → IsLeft (root_key_length l.dbd.types) l.left (left-of (root_key_length l.dbd.types) l.fn.volume l.chain l.n-index);
  listed : IsTrue l.fn.volume.is_sound → AreOrdersTo l.dbd l.fn.volume l.chain l.n-index l.found.items;
}
