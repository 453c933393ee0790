use Rattle.std.proofs.Common.{◌≡◌, ◌+◌, ◌*◌, ◌-◌, ◌<◌, ℕ, List, length, Some, sym, ap, ◌∙◌, arith}
use Rattle.std.specs.Prelude.{slice_get, min}
use Rattle.std.specs.Ordering.{is_lt}
use Rattle.hd_bytes.specs.Numbers.{number_at}
use Rattle.hd_volume.specs.Entries.{entries_in}
use Rattle.hd_volume.specs.Indexes.{key_less}
use Rattle.hd_index_blocks.specs.Fields.{below_count}
use Rattle.hd_index_blocks.proofs.BlockLemmas.{entry_of, length-entries, entry-get}
use Rattle.hd_index.proofs.Places.{child-here}
use Rattle.hd_index.proofs.enter.turn_in.Goals as goal

pub returns-clause-turn : goal.returns-clause-turn
returns-clause-turn c fits ascend more =
    let b = c.args.block.now.bytes.now in
    let k = c.args.block.now.key_length in
    let by = c.args.by.now in
    let n : ℕ = number_at 2 b 4 in
    let i : ℕ = c.min-index.result in
    let v = c.count-count.ensures.value in
    let some : 0 < c.count-count.result = (let z = c.if-count-eq0.false in omega arith) in
    let count : c.count-count.result ≡ n = omega arith in
    let place : c.place_of.result ≡ below_count by (entries_in k b) = c.place_of.ensures.value fits ascend in
    let len : length (entries_in k b) ≡ n = length-entries k b 12 n in
    let at = c.min-index.ensures in
    let within : i < n = omega arith in
    let here : slice_get (entries_in k b) i ≡ Some (entry_of k b (12 + i * (k + 4))) = entry-get k b 12 n i within in
    let index : i ≡ min (below_count by (entries_in k b)) (length (entries_in k b) - 1) = omega arith in
    record {
      entry = entry_of k b (12 + i * (k + 4));
      at_index = here;
      count_is = count ∙ sym len;
      address = c.address.ensures;
      child_is = c.address.ensures ∙ child-here by (entries_in k b) i (entry_of k b (12 + i * (k + 4))) index here;
      low_is = c.is_lt.ensures ∙ ap is_lt c.compare_keys.ensures ∙ ap (λ (x : List ℕ). key_less x c.args.key.now) c.key.ensures.value;
    }
