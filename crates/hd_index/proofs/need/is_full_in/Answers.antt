use Rattle.std.proofs.Common.{◌≡◌, ℕ, length, ap, ◌∙◌, arith}
use Rattle.std.specs.Prelude.{nat_le}
use Rattle.hd_bytes.specs.Numbers.{number_at}
use Rattle.hd_volume.specs.Entries.{entries_in}
use Rattle.hd_volume.specs.Indexes.{entry_room}
use Rattle.hd_index_blocks.proofs.BlockLemmas.{length-entries}
use Rattle.hd_index.proofs.need.is_full_in.Goals as goal

pub returns : goal.returns
returns c fits =
    let b = c.args.block.now.bytes.now in
    let k : ℕ = c.args.block.now.key_length in
    let len : length (entries_in k b) ≡ number_at 2 b 4 = length-entries k b 12 (number_at 2 b 4) in
    let v = c.count.ensures.value in
    let all : c.count.result ≡ length (entries_in k b) = omega arith in
    ap (λ (r : ℕ). nat_le r c.count.result) c.entry_room.ensures.value ∙ ap (λ (n : ℕ). nat_le (entry_room k (length b)) n) all
