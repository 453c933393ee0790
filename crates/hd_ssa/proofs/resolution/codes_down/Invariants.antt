use Rattle.std.proofs.Common.{◌≡◌, ◌≤◌, length, drop, ◌++◌, None}
use Rattle.std.specs.Prelude.{option_map}
use Rattle.hd_ssa.specs.Named.{codes_down}
use Rattle.hd_ssa.proofs.resolution.codes_down.Given as goal

-- the codes so far, with those of the heads that are left, are all
abbrev pub invariant-loop-head : goal.invariant-loop-head
invariant-loop-head l = record {
  same : option_map (λ cs. l.codes.items ++ cs) (codes_down l.dbd.types l.above (drop l.head-index l.heads)) ≡ codes_down l.dbd.types None l.heads;
  count : length l.codes.items ≡ l.head-index;
  room : 4 ≤ l.codes.capacity;
}
