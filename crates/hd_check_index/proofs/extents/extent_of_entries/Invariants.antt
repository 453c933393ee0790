use Rattle.std.proofs.Common.{◌<◌}
use Rattle.hd_volume.specs.Entries.{entries_at}
use Rattle.hd_check_index.specs.Extents.{IsExtent}
use Rattle.hd_check_index.proofs.extents.extent_of_entries.Given as goal

-- the extent of the entries before
abbrev pub invariant-loop-index : goal.invariant-loop-index
invariant-loop-index l = record { extent : 0 < l.index → IsExtent l.block.key_length l.extent (entries_at l.block.key_length l.block.bytes.now 12 l.index) }
