use Rattle.std.proofs.Common.{◌≡◌, ◌<◌, ◌≤◌, length, take}
use Rattle.hd_get.proofs.TakenLevels.{levels_among}
use Rattle.hd_get.proofs.found_row.taken.Given as goal

-- the levels of so many arguments that have D; once there was one, it is known how many there may be
abbrev pub invariant-loop-place : goal.invariant-loop-place
invariant-loop-place l = record {
  levels : l.levels ≡ levels_among l.dbd.types (take l.place l.ssas);
  few : 0 < l.place → length l.ssas ≤ 15;
}
