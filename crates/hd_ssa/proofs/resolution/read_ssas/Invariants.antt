use Rattle.std.proofs.Common.{◌≡◌, ◌≤◌, length, drop, ◌++◌}
use Rattle.std.specs.Prelude.{Ok}
use Rattle.hd_dbd.specs.Views.{Setting}
use Rattle.hd_calls.specs.Functions.{result_and_then}
use Rattle.hd_calls.specs.Ssas.{read_ssas}
use Rattle.hd_ssa.specs.Named.{heads_in}
use Rattle.hd_ssa.proofs.resolution.read_ssas.Given as goal

-- the arguments so far, with those that are left, are all
abbrev pub invariant-loop-place : goal.invariant-loop-place
invariant-loop-place l = record {
  same : (s : Setting) → s.types ≡ l.dbd.types
      → result_and_then (read_ssas s (drop l.place l.codes) (heads_in (drop l.place l.heads))) (λ rest. Ok (l.ssas.items ++ rest)) ≡ read_ssas s l.codes (heads_in l.heads);
  count : length l.ssas.items ≡ l.place;
  room : 4 ≤ l.ssas.capacity;
}
