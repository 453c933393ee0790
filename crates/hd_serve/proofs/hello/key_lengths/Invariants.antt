use Rattle.std.proofs.Common.{◌≡◌, ℕ, ◌*◌, ◌≤◌, drop}
use Rattle.std.specs.Prelude.{slice_index}
use Rattle.std.specs.Option.{option_map_or}
use Rattle.hd_dbd.specs.Hierarchy.{weights_from}
use Rattle.hd_serve.specs.Hello.{key_lengths}
use Rattle.hd_serve.proofs.hello.key_lengths.Given as goal

abbrev pub invariant-loop-segment : goal.invariant-loop-segment
invariant-loop-segment l = record {
  told : weights_from (λ t. option_map_or (λ k. k.length) t.key 0) l.lengths.items (drop l.segment-index l.types) ≡ key_lengths l.types;
  low : (k : ℕ) → slice_index l.lengths.items k ≤ l.segment-index * 4294967295;
}
