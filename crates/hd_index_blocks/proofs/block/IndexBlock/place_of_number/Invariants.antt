use Rattle.std.proofs.Common.{◌≡◌, ℕ, ◌-◌, ◌<◌, ◌≤◌, true, false}
use Rattle.hd_bytes.specs.Ranges.{bytes_at}
use Rattle.hd_volume.specs.Entries.{entries_at}
use Rattle.hd_volume.specs.Indexes.{key_less, keys_ascend}
use Rattle.hd_index_blocks.specs.Fields.{entry_place}
use Rattle.hd_index_blocks.proofs.block.IndexBlock.place_of_number.Given as goal

abbrev pub invariant-loop-low : goal.invariant-loop-low
invariant-loop-low l = record {
  order : l.low ≤ l.high;
  most : l.high ≤ l.count;
  below : keys_ascend (entries_at l.self.key_length l.self.bytes.now 12 l.count) ≡ true → (j : ℕ) → j < l.low → key_less (bytes_at l.self.bytes.now (entry_place l.self.key_length j) l.self.key_length) l.key ≡ true;
  above : keys_ascend (entries_at l.self.key_length l.self.bytes.now 12 l.count) ≡ true → (j : ℕ) → l.high ≤ j → j < l.count → key_less (bytes_at l.self.bytes.now (entry_place l.self.key_length j) l.self.key_length) l.key ≡ false;
}

abbrev pub decreases-loop-low : goal.decreases-loop-low
decreases-loop-low l = l.high - l.low
