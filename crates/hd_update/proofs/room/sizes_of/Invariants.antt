use Rattle.std.proofs.Common.{◌≡◌, ◌≤◌, ◌+◌, length, drop, true}
use Rattle.std.specs.Prelude.{◌*◌}
use Rattle.hd_calls.specs.Runs.{stored_sizes}
use Rattle.hd_update.specs.NewRows.{codes_of, are_rows_in, rows_in}
use Rattle.hd_update.proofs.room.sizes_of.Given as goal

-- what the rows so far take, with what is behind them, is what all take
abbrev pub invariant-loop-place : goal.invariant-loop-place
invariant-loop-place l = record {
  within : l.start ≤ length l.area;
  small : l.total ≤ l.place * 65535;
  are : are_rows_in l.dbd.types (codes_of (drop l.place l.ssas)) (drop l.start l.area) ≡ true;
  left : l.total + stored_sizes l.dbd.types (rows_in l.dbd.types (codes_of (drop l.place l.ssas)) (drop l.start l.area)) ≡ stored_sizes l.dbd.types (rows_in l.dbd.types (codes_of l.ssas) l.area);
}
