use Rattle.std.proofs.Common.{◌≡◌, ◌+◌, ◌-◌, ◌++◌, length}
use Rattle.hd_dbd.specs.Facts.{table_from, segment_size, stored_sizes}
use Rattle.hd_volume.proofs.load.size_table.Given as goal

abbrev pub invariant-loop-place : goal.invariant-loop-place
invariant-loop-place l = (l.count ≡ length l.dbd.types) × (l.sizes.items ++ table_from (segment_size l.dbd.types) (l.place + 1) (length l.dbd.types - l.place) ≡ stored_sizes l.dbd.types)
