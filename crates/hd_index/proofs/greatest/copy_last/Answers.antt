use Rattle.std.proofs.Common.{◌≡◌, List, length, ap, ◌∙◌, arith}
use Rattle.hd_bytes.specs.Numbers.{number_at}
use Rattle.hd_volume.specs.Entries.{Entry, entries_in}
use Rattle.hd_index_blocks.specs.Maps.{last_key}
use Rattle.hd_index_blocks.proofs.BlockLemmas.{length-entries}
use Rattle.hd_index.proofs.Fronts.{take-whole}
use Rattle.hd_index.proofs.greatest.copy_last.Goals as goal

pub returns : goal.returns
returns c fits other =
    let b = c.args.block.now.bytes.now in
    let k = c.args.block.now.key_length in
    let len : length (entries_in k b) ≡ number_at 2 b 4 = length-entries k b 12 (number_at 2 b 4) in
    let v = c.count.ensures.value in
    let all : c.count.result ≡ length (entries_in k b) = omega arith in
    c.copy_key_before.ensures fits other ∙ ap (λ (t : List Entry). last_key other t) (take-whole (entries_in k b) c.count.result all)
