use Rattle.std.proofs.Common.{◌≡◌, ◌+◌, ◌*◌, ◌-◌, ◌<◌, ℕ, length, Some, sym, ap, ◌∙◌, arith}
use Rattle.std.specs.Prelude.{slice_get, min}
use Rattle.hd_bytes.specs.Numbers.{number_at}
use Rattle.hd_volume.specs.Entries.{entries_at, entries_in}
use Rattle.hd_index_blocks.specs.Fields.{below_count}
use Rattle.hd_index_blocks.specs.Ways.{child_of}
use Rattle.hd_index_blocks.proofs.BlockLemmas.{entry_of, length-entries, entry-get}
use Rattle.hd_index.proofs.Places.{child-here}
use Rattle.hd_index.proofs.look.child_in.Goals as goal

pub returns-then-count-eq0 : goal.returns-then-count-eq0
returns-then-count-eq0 c fits ascend =
    let b = c.args.block.now.bytes.now in
    let v = c.count-count.ensures.value in
    let none : number_at 2 b 4 ≡ 0 = (let z = c.if-count-eq0.true in omega arith) in
    sym (ap (λ (m : ℕ). child_of c.args.key.now (entries_at c.args.block.now.key_length b 12 m)) none)

pub returns : goal.returns
returns c fits ascend =
    let b = c.args.block.now.bytes.now in
    let k = c.args.block.now.key_length in
    let key = c.args.key.now in
    let n : ℕ = number_at 2 b 4 in
    let i : ℕ = c.min-index.result in
    let v = c.count-count.ensures.value in
    let some : 0 < c.count-count.result = (let z = c.if-count-eq0.false in omega arith) in
    let count : c.count-count.result ≡ n = omega arith in
    let place : c.place_of.result ≡ below_count key (entries_in k b) = c.place_of.ensures.value fits ascend in
    let len : length (entries_in k b) ≡ n = length-entries k b 12 n in
    let at = c.min-index.ensures in
    let within : i < n = omega arith in
    let here : slice_get (entries_in k b) i ≡ Some (entry_of k b (12 + i * (k + 4))) = entry-get k b 12 n i within in
    let index : i ≡ min (below_count key (entries_in k b)) (length (entries_in k b) - 1) = omega arith in
    c.address.ensures ∙ child-here key (entries_in k b) i (entry_of k b (12 + i * (k + 4))) index here
