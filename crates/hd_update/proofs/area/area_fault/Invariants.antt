use Rattle.std.proofs.Common.{◌≡◌, ◌≤◌, length, drop}
use Rattle.std.specs.Result.{result_err}
use Rattle.hd_update.specs.NewRows.{codes_of, parts_in}
use Rattle.hd_update.proofs.area.area_fault.Given as goal

-- what is behind the rows so far has the fault of all
abbrev pub invariant-loop-place : goal.invariant-loop-place
invariant-loop-place l = record {
  within : l.start ≤ length l.area;
  left : result_err (parts_in l.dbd.types (codes_of (drop l.place l.ssas)) (drop l.start l.area)) ≡ result_err (parts_in l.dbd.types (codes_of l.ssas) l.area);
}
