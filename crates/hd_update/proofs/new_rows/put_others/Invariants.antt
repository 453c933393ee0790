use Rattle.std.proofs.Common.{◌≡◌, ℕ, ◌+◌, ◌≤◌, List, length, drop, true, Ok, IsTrue}
use Rattle.hd_volume.specs.Calls.{IsCall}
use Rattle.hd_volume.specs.Volumes.{VolumeState}
use Rattle.hd_forest.specs.Walks.{tip}
use Rattle.hd_update.specs.NewRows.{codes_of, are_rows_in, rows_in, TakeMore, GoInBelow}
use Rattle.hd_update.proofs.new_rows.put_others.Given as goal

-- what is left may go in, and when it has, all rows are in
abbrev pub invariant-loop-place : goal.invariant-loop-place
invariant-loop-place g l = record {
  within : l.start ≤ length l.area;
  few : IsTrue l.volume.is_sound → length l.path + length (drop l.place l.ssas) ≤ 15;
  are : are_rows_in l.dbd.types (codes_of (drop l.place l.ssas)) (drop l.start l.area) ≡ true;
  call : IsCall {T = ℕ} l.fn.volume (Ok 0) l.volume;
  more : IsTrue l.volume.is_sound → TakeMore l.dbd l.volume (tip l.path) (rows_in l.dbd.types (codes_of (drop l.place l.ssas)) (drop l.start l.area));
  all : (w : VolumeState) (down : List ℕ) → GoInBelow l.dbd l.volume l.path (rows_in l.dbd.types (codes_of (drop l.place l.ssas)) (drop l.start l.area)) w down
      → GoInBelow l.dbd l.fn.volume l.fn.path (rows_in l.dbd.types (codes_of l.ssas) l.area) w down;
}
