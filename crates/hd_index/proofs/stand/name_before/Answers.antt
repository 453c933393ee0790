use Rattle.std.proofs.Common.{◌≡◌, ◌+◌, ◌*◌, ◌-◌, ℕ, suc, take, Some, refl, sym, ap, ◌∙◌, arith}
use Rattle.std.specs.Prelude.{slice_get}
use Rattle.hd_bytes.specs.Numbers.{number_at}
use Rattle.hd_volume.specs.Entries.{Entry, entries_in}
use Rattle.hd_index_blocks.specs.Levels.{named}
use Rattle.hd_index_blocks.specs.Neighbours.{last_of}
use Rattle.hd_index_blocks.proofs.BlockLemmas.{entry_of, entry-get}
use Rattle.hd_index.proofs.Fronts.{names-taken}
use Rattle.hd_index.proofs.stand.name_before.Goals as goal

pub returns-then-index-eq0 : goal.returns-then-index-eq0
returns-then-index-eq0 c fits = rw c.if-index-eq0.true refl

pub returns-else-index-eq0 : goal.returns-else-index-eq0
returns-else-index-eq0 c fits =
    let b = c.args.block.now.bytes.now in
    let k = c.args.block.now.key_length in
    let j : ℕ = c.args.index - 1 in
    let x : Entry = entry_of k b (12 + j * (k + 4)) in
    let some : c.args.index ≡ suc j = (let f = c.if-index-eq0.false in omega arith) in
    let get : slice_get (entries_in k b) j ≡ Some x = entry-get k b 12 (number_at 2 b 4) j (let r = c.requires in omega arith) in
    c.address.ensures ∙ sym (names-taken 0 (entries_in k b) j x get) ∙ ap (λ (i : ℕ). last_of 0 (named (take i (entries_in k b)))) (sym some)
