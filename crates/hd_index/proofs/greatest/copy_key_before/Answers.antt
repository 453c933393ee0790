use Rattle.std.proofs.Common.{◌≡◌, ◌+◌, ◌*◌, ◌-◌, ℕ, suc, take, Some, sym, ap, ◌∙◌, arith}
use Rattle.std.specs.Prelude.{slice_get}
use Rattle.hd_bytes.specs.Numbers.{number_at}
use Rattle.hd_volume.specs.Entries.{Entry, entries_in}
use Rattle.hd_index_blocks.specs.Maps.{last_key}
use Rattle.hd_index_blocks.proofs.BlockLemmas.{entry_of, entry-get}
use Rattle.hd_index.proofs.Fronts.{key-taken}
use Rattle.hd_index.proofs.greatest.copy_key_before.Goals as goal

pub returns : goal.returns
returns c fits other =
    let b = c.args.block.now.bytes.now in
    let k = c.args.block.now.key_length in
    let j : ℕ = c.args.index - 1 in
    let x : Entry = entry_of k b (12 + j * (k + 4)) in
    let some : c.args.index ≡ suc j = (let f = c.if-index-eq0.false in omega arith) in
    let get : slice_get (entries_in k b) j ≡ Some x = entry-get k b 12 (number_at 2 b 4) j (let r = c.requires in omega arith) in
    c.copy_key_at.ensures ∙ sym (key-taken other (entries_in k b) j x get) ∙ ap (λ (i : ℕ). last_key other (take i (entries_in k b))) (sym some)
