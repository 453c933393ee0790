use Rattle.std.proofs.Common.{◌≡◌, ◌≤◌, ◌++◌, length}
use Rattle.hd_volume.specs.Entries.{entries_at}
use Rattle.hd_index_blocks.specs.Levels.{named}
use Rattle.hd_check_index.specs.Rows.{row_of}
use Rattle.hd_check_index.proofs.rows.note_named.Given as goal

-- what the entries before name is noted
abbrev pub invariant-loop-index : goal.invariant-loop-index
invariant-loop-index l = record {
  longer : length l.fn.rows.items ≤ length l.rows.items;
  named_are : l.rows.items ≡ l.fn.rows.items ++ row_of l.level (named (entries_at l.block.key_length l.block.bytes.now 12 l.index));
}
