use Rattle.std.proofs.Common.{◌≡◌, ◌+◌, ◌≤◌, length}
use Rattle.std.specs.Str.Lines.{lines}
use Rattle.hd_macro.specs.FaultColumns.{column_from, fault_column}
use Rattle.hd_macro.specs.Views.{open_of}
use Rattle.hd_macro.proofs.fault_place.fault_column.Given as goal

abbrev pub invariant-lines : goal.invariant-lines
invariant-lines l = record {
  so_far : column_from l.number (open_of l.standing) l.here (lines l.rest) ≡ fault_column l.bytes l.number;
  numbered : l.here + length l.rest ≤ 1 + length l.bytes;
}

abbrev pub decreases-lines : goal.decreases-lines
decreases-lines l = length l.rest
