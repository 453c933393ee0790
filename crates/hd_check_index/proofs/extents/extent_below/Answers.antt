use Rattle.std.proofs.Common.{◌≡◌, ℕ, List, length, min, arith}
use Rattle.hd_bytes.specs.Numbers.{number_at}
use Rattle.hd_volume.specs.Entries.{entries_in}
use Rattle.hd_index_blocks.proofs.BlockLemmas.{length-entries}
use Rattle.hd_check_index.proofs.BlockExtents.{extent-lowest, extent-upper}
use Rattle.hd_check_index.proofs.extents.extent_below.Goals as goal

pub returns-then-level-eq0 : goal.returns-then-level-eq0
returns-then-level-eq0 c = λ fits some.
    let b : List ℕ = c.args.block.now.bytes.now in
    let k : ℕ = c.args.block.now.key_length in
    extent-lowest k c.args.level (entries_in k b) c.args.below.now c.extent_of_entries.result c.if-level-eq0.true (c.extent_of_entries.ensures fits some)

pub returns : goal.returns
returns c = λ fits some.
    let b : List ℕ = c.args.block.now.bytes.now in
    let k : ℕ = c.args.block.now.key_length in
    let len = length-entries k b 12 (number_at 2 b 4) in
    let up = c.if-level-eq0.false in
    let value = c.count.ensures.value in
    let is : c.min-count.result ≡ min (length (entries_in k b)) (length c.args.below.now) = (let m = c.min-count.ensures in omega arith) in
    extent-upper k c.args.level c.min-count.result (entries_in k b) c.args.below.now c.extent_of_blocks.result (omega arith) (omega arith) is c.extent_of_blocks.ensures
