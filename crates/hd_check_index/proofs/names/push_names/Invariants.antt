use Rattle.std.proofs.Common.{◌≡◌, ◌++◌}
use Rattle.hd_volume.specs.Entries.{entries_at}
use Rattle.hd_index_blocks.specs.Levels.{named}
use Rattle.hd_check_index.proofs.names.push_names.Given as goal

-- what the entries before name is behind the other names
abbrev pub invariant-loop-index : goal.invariant-loop-index
invariant-loop-index l = l.names.items ≡ l.fn.names.items ++ named (entries_at l.upper.key_length l.upper.bytes.now 12 l.index)
