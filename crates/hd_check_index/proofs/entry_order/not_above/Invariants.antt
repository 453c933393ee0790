use Rattle.std.proofs.Common.{◌≡◌, Option}
use Rattle.hd_volume.specs.Entries.{Entry, entries_at}
use Rattle.hd_image.specs.IndexFaults.{last_entry, first_not_above}
use Rattle.hd_check_index.specs.LeftKeys.{IsLeft}
use Rattle.hd_check_index.proofs.OrderSteps.{address-of}
use Rattle.hd_check_index.proofs.entry_order.not_above.Given as goal

-- the entries before are judged, and the key of the last one is kept
abbrev pub invariant-loop-index : goal.invariant-loop-index
invariant-loop-index l = record {
  found : (o : Option Entry) → IsLeft l.block.key_length l.fn.left o → address-of (first_not_above o (entries_at l.block.key_length l.block.bytes.now 12 l.index)) ≡ l.found;
  left : (o : Option Entry) → IsLeft l.block.key_length l.fn.left o → IsLeft l.block.key_length l.left (last_entry o (entries_at l.block.key_length l.block.bytes.now 12 l.index));
}
