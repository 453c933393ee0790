use Rattle.std.proofs.Common.{◌≡◌, ℕ, length, ap, arith}
use Rattle.std.specs.Prelude.{nat_lt}
use Rattle.hd_bytes.specs.Numbers.{number_at}
use Rattle.hd_volume.specs.Entries.{entries_in}
use Rattle.hd_index_blocks.proofs.BlockLemmas.{length-entries}
use Rattle.hd_index.proofs.way.has_more_in.Goals as goal

pub returns : goal.returns
returns c fits =
    let b = c.args.block.now.bytes.now in
    let k : ℕ = c.args.block.now.key_length in
    let len : length (entries_in k b) ≡ number_at 2 b 4 = length-entries k b 12 (number_at 2 b 4) in
    let v = c.count.ensures.value in
    let all : c.count.result ≡ length (entries_in k b) = omega arith in
    ap (λ (n : ℕ). nat_lt 1 n) all
