use Rattle.std.proofs.Common.{◌≡◌, ◌+◌, ◌*◌, ◌-◌, ℕ, Some, sym, ap, ◌∙◌, arith}
use Rattle.std.specs.Prelude.{slice_get}
use Rattle.std.specs.Option.{option_map}
use Rattle.hd_bytes.specs.Numbers.{number_at}
use Rattle.hd_volume.specs.Entries.{Entry, entries_in}
use Rattle.hd_index_blocks.proofs.BlockLemmas.{entry_of, entry-get}
use Rattle.hd_index.proofs.divisions.cut_in.Goals as goal

pub returns : goal.returns
returns c fits two =
    let b = c.args.block.now.bytes.now in
    let k = c.args.block.now.key_length in
    let n : ℕ = number_at 2 b 4 in
    let v = c.count-count.ensures.value in
    let count : c.count-count.result ≡ n = omega arith in
    let half : ℕ = c.half_of-half.result in
    let j : ℕ = half - 1 in
    let some = c.half_of-half.ensures.some in
    let less = c.half_of-half.ensures.less in
    let here : slice_get (entries_in k b) j ≡ Some (entry_of k b (12 + j * (k + 4))) = entry-get k b 12 n j (omega arith) in
    record {
      count = count;
      some = some;
      less = less;
      last = ap (option_map (λ (e : Entry). e.key)) here ∙ ap Some (sym c.key_copy.ensures);
      next = c.next.ensures;
    }
