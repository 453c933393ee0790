use Rattle.std.proofs.Common.{◌≡◌, List, ◌++◌, None, Option, drop}
use Rattle.hd_volume.specs.Entries.{Entry, entries_at, entries_in}
use Rattle.hd_index_blocks.specs.Levels.{IndexBlocks}
use Rattle.hd_index_blocks.specs.LevelFaults.{last_entry, first_entry}
use Rattle.hd_check_index.specs.BlockExtents.{AreBelow}
use Rattle.hd_check_index.specs.EntryOrders.{IsLeft, address_wrong}
use Rattle.hd_check_index.proofs.order.wrong_in.Given as goal

-- the entries before are judged, and the key of the last one is kept
abbrev pub invariant-loop-index : goal.invariant-loop-index
invariant-loop-index l = record {
  found : (c : IndexBlocks) (rs : List Entry) (o : Option Entry) → AreBelow l.block.key_length c l.level (entries_in l.block.key_length l.block.bytes.now ++ rs) l.below → IsLeft l.block.key_length l.fn.left o
      → address_wrong c l.level o (entries_at l.block.key_length l.block.bytes.now 12 l.index) (first_entry (drop l.index (entries_in l.block.key_length l.block.bytes.now) ++ rs) None) ≡ l.found;
  left : (o : Option Entry) → IsLeft l.block.key_length l.fn.left o → IsLeft l.block.key_length l.left (last_entry o (entries_at l.block.key_length l.block.bytes.now 12 l.index));
}
