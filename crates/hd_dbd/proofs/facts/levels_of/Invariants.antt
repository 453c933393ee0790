use Rattle.std.proofs.Common.{◌≡◌, ℕ, ◌≤◌, drop}
use Rattle.std.specs.Prelude.{slice_index}
use Rattle.hd_dbd.specs.Hierarchy.{weights_from, levels_of}
use Rattle.hd_dbd.proofs.facts.levels_of.Given as goal

abbrev pub invariant-loop-segment : goal.invariant-loop-segment
invariant-loop-segment l = record {
  told : weights_from (λ _. 1) l.levels.items (drop l.segment-index l.types) ≡ levels_of l.types;
  low : (k : ℕ) → slice_index l.levels.items k ≤ l.segment-index;
}
