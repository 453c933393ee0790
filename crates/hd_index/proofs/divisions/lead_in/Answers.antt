use Rattle.std.proofs.Common.{◌≡◌, ◌+◌, ◌*◌, ◌<◌, ℕ, take, Some, refl, ◌∙◌, arith}
use Rattle.std.specs.Prelude.{slice_get}
use Rattle.hd_bytes.specs.Numbers.{number_at}
use Rattle.hd_volume.specs.Entries.{entries_in}
use Rattle.hd_index_blocks.specs.Fields.{below_count}
use Rattle.hd_index_blocks.proofs.BlockLemmas.{entry_of, entry-get}
use Rattle.hd_index.proofs.divisions.lead_in.Goals as goal

pub returns-then-count-eq0 : goal.returns-then-count-eq0
returns-then-count-eq0 c fits ascend some = (let v = c.count-count.ensures.value in let z = c.if-count-eq0.true in absurd (omega arith))

pub returns : goal.returns
returns c fits ascend some-count =
    let b = c.args.block.now.bytes.now in
    let k = c.args.block.now.key_length in
    let n : ℕ = number_at 2 b 4 in
    let i : ℕ = c.min-index.result in
    let v = c.count-count.ensures.value in
    let some : 0 < c.count-count.result = (let z = c.if-count-eq0.false in omega arith) in
    let count : c.count-count.result ≡ n = omega arith in
    let place : c.place_of.result ≡ below_count c.args.by.now (entries_in k b) = c.place_of.ensures.value fits ascend in
    let at = c.min-index.ensures in
    let within : i < n = omega arith in
    let here : slice_get (entries_in k b) i ≡ Some (entry_of k b (12 + i * (k + 4))) = entry-get k b 12 n i within in
    let key = c.key_copy.ensures in
    let address = c.address.ensures in
    record {
      at = record { count = count; entry = here ∙ (let e : Some (entry_of k b (12 + i * (k + 4))) ≡ Some (record { key = take k c.key_copy.result; address = c.address.result }) = rw (key, address) refl in e) };
      index = omega arith;
    }
