use Rattle.std.proofs.Common.{◌≤◌, ℕ, IsTrue, Ok, length}
use Rattle.hd_volume.specs.Calls.{IsRead}
use Rattle.hd_check_index.specs.Listed.{AtAddress, AreOrdersListed}
use Rattle.hd_check_index.proofs.RowsUp.{AreJudged}
use Rattle.hd_check_index.proofs.set_orders.list_orders.Given as goal

-- the rows behind are judged, and what is out of order in them is listed
abbrev pub invariant-loop-end : goal.invariant-loop-end
invariant-loop-end g l = record {
  read : IsRead {T = ℕ} l.fn.volume (Ok 0) l.volume;
  within : l.end ≤ length l.rows;
  judged : IsTrue l.fn.volume.is_sound → AreJudged l.key_length l.fn.volume l.rows l.end l.below.items (λ P. AreOrdersListed (AtAddress l.size P) l.fn.faults.items l.faults.items);
}

abbrev pub decreases-loop-end : goal.decreases-loop-end
decreases-loop-end g l = l.end
