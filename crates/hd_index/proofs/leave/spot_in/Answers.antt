use Rattle.std.proofs.Common.{◌≡◌, ◌-◌, ◌<◌, ℕ, List, length, sym, ap, ◌∙◌, arith}
use Rattle.std.specs.Prelude.{min}
use Rattle.std.proofs.lemmas.List.{length-take-le}
use Rattle.hd_bytes.specs.Numbers.{number_at}
use Rattle.hd_volume.specs.Entries.{Entry, entries_in}
use Rattle.hd_index_blocks.specs.Fields.{below_count}
use Rattle.hd_index_blocks.proofs.BlockLemmas.{length-entries}
use Rattle.hd_index.proofs.Fronts.{front-take}
use Rattle.hd_index.proofs.leave.spot_in.Goals as goal

pub returns-clause-index : goal.returns-clause-index
returns-clause-index c fits ascend =
    let b = c.args.block.now.bytes.now in
    let k = c.args.block.now.key_length in
    let key = c.args.key.now in
    let n : ℕ = number_at 2 b 4 in
    let i : ℕ = c.min.result in
    let v = c.count-count.ensures.value in
    let some : 0 < c.count-count.result = (let z = c.if-count-eq0.false in omega arith) in
    let count : c.count-count.result ≡ n = omega arith in
    let place : c.place_of.result ≡ below_count key (entries_in k b) = c.place_of.ensures.value fits ascend in
    let len : length (entries_in k b) ≡ n = length-entries k b 12 n in
    let at = c.min.ensures in
    let index : i ≡ min (below_count key (entries_in k b)) (length (entries_in k b) - 1) = omega arith in
    sym (ap (λ (t : List Entry). length t) (front-take key (entries_in k b) i index) ∙ length-take-le i (entries_in k b) (omega arith))
