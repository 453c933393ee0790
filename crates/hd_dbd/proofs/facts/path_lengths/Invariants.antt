use Rattle.std.proofs.Common.{◌≡◌, ℕ, ◌*◌, ◌≤◌, drop}
use Rattle.std.specs.Prelude.{slice_index}
use Rattle.hd_dbd.specs.Hierarchy.{weights_from, weights}
use Rattle.hd_dbd.proofs.facts.path_lengths.Given as goal

abbrev pub invariant-loop-segment : goal.invariant-loop-segment
invariant-loop-segment l = record {
  told : weights_from (λ t. t.length) l.lengths.items (drop l.segment-index l.types) ≡ weights (λ t. t.length) l.types;
  low : (k : ℕ) → slice_index l.lengths.items k ≤ l.segment-index * 4294967295;
}
