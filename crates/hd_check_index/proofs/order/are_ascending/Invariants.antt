use Rattle.std.proofs.Common.{◌≡◌, true, None, length}
use Rattle.std.specs.Option.{option_map_or}
use Rattle.hd_volume.specs.Entries.{Entry, entries_at}
use Rattle.hd_volume.specs.Indexes.{keys_ascend}
use Rattle.hd_index_blocks.specs.LevelFaults.{last_entry}
use Rattle.hd_check_index.proofs.order.are_ascending.Given as goal

-- the keys of the entries before ascend, and the last of them is at hand
abbrev pub invariant-loop-index : goal.invariant-loop-index
invariant-loop-index l = record {
  ascend : keys_ascend (entries_at l.block.key_length l.block.bytes.now 12 l.index) ≡ true;
  last : option_map_or (λ (e : Entry). e.key) (last_entry None (entries_at l.block.key_length l.block.bytes.now 12 l.index)) l.before ≡ l.before;
  long : length l.before ≡ l.block.key_length;
}
