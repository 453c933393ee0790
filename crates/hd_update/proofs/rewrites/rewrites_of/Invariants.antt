use Rattle.std.proofs.Common.{◌≡◌, ◌≤◌, ◌++◌, Ok, length, drop}
use Rattle.hd_calls.specs.Functions.{result_and_then}
use Rattle.hd_update.specs.Replacing.{parts_held, new_bytes_from}
use Rattle.hd_update.proofs.rewrites.rewrites_of.Given as goal

-- the new bytes so far, with those behind them, are all of them
abbrev pub invariant-loop-place : goal.invariant-loop-place
invariant-loop-place l = record {
  within : l.start ≤ length l.area;
  few : length l.news ≤ l.place;
  left : result_and_then (parts_held l.dbd.types l.ssas (drop l.place l.held) (drop l.start l.area)) (λ parts. Ok (l.news ++ new_bytes_from l.ssas l.start (drop l.place l.held) parts))
      ≡ result_and_then (parts_held l.dbd.types l.ssas l.held l.area) (λ parts. Ok (new_bytes_from l.ssas 0 l.held parts));
}
