use Rattle.std.proofs.Common.{◌≡◌}
use Rattle.hd_volume.specs.Indexes.{root_key_length}
use Rattle.hd_check_index.specs.SetPhases.{OfFormedSet}
use Rattle.hd_check_index.specs.Rows.{AreRows}
use Rattle.hd_check_index.proofs.RowLists.{AreNextsTo}
use Rattle.hd_check_index.proofs.set_orders.next_faults.Given as goal

-- the wrong next blocks before are listed
abbrev pub invariant-loop-i : goal.invariant-loop-i
invariant-loop-i l =
    OfFormedSet l.blocks (λ d v. AreRows (root_key_length d.types) v l.rows → l.size ≡ v.size → AreNextsTo d v l.rows l.i l.faults.items)
