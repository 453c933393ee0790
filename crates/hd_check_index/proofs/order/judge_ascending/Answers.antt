use Rattle.std.proofs.Common.{◌≡◌, ◌+◌, ◌-◌, ℕ, suc, List, Option, None, Some, take, true, refl, sym, ap, subst, ◌∙◌, arith}
use Rattle.hd_bytes.specs.Numbers.{number_at}
use Rattle.hd_bytes.specs.Ranges.{bytes_at}
use Rattle.hd_volume.specs.Indexes.{keys_ascend}
use Rattle.hd_volume.specs.Entries.{Entry, entries_at, entries_in}
use Rattle.hd_index_blocks.specs.Fields.{entry_in}
use Rattle.hd_index_blocks.proofs.BlockLemmas.{length-entries}
use Rattle.hd_index_blocks.specs.LevelFaults.{last_entry}
use Rattle.hd_check_index.specs.Extents.{IsExtent}
use Rattle.hd_check_index.specs.EntryOrders.{IsLeft}
use Rattle.hd_check_index.proofs.BlockExtents.{extent-ascending}
use Rattle.hd_check_index.proofs.EntryOrders.{last-in, first-key}
use Rattle.hd_check_index.proofs.order.judge_ascending.Goals as goal

pub returns-clause-left : goal.returns-clause-left
returns-clause-left c = λ fits o h.
    let k : ℕ = c.args.block.now.key_length in
    let b : List ℕ = c.args.block.now.bytes.now in
    let m : ℕ = c.count-count.result - 1 in
    let number : number_at 2 b 4 ≡ suc m = (let value = c.count-count.ensures.value in let some = c.requires.some in omega arith) in
    let last : last_entry o (entries_in k b) ≡ Some (entry_in k b m) = last-in k b (number_at 2 b 4) m o number in
    let own : take k c.keep_key.new.left.key ≡ (entry_in k b m).key = ap (λ (x : ℕ). take x c.keep_key.new.left.key) (sym c.key-greatest.ensures.len) ∙ c.keep_key.ensures.key ∙ c.key-greatest.ensures.value in
    subst (λ (q : Option Entry). IsLeft k c.keep_key.new.left q) (sym last) (c.keep_key.ensures.some, own)

pub returns-clause-extent : goal.returns-clause-extent
returns-clause-extent c = λ fits ascend.
    let k : ℕ = c.args.block.now.key_length in
    let b : List ℕ = c.args.block.now.bytes.now in
    let m : ℕ = c.count-count.result - 1 in
    let number : number_at 2 b 4 ≡ suc m = (let value = c.count-count.ensures.value in let some = c.requires.some in omega arith) in
    let least = ap (λ (x : ℕ). take x c.extent_between.result.least) (sym c.key.ensures.len) ∙ c.extent_between.ensures.least ∙ c.key.ensures.value ∙ first-key k b in
    let greatest = ap (λ (x : ℕ). take x c.extent_between.result.greatest) (sym c.key-greatest.ensures.len) ∙ c.extent_between.ensures.greatest ∙ c.key-greatest.ensures.value in
    let first : Entry = record { key = bytes_at b 12 k; address = number_at 4 b (12 + k) } in
    let rest : List Entry = entries_at k b (12 + k + 4) m in
    let E : ℕ → Type 0 = λ n. IsExtent k c.extent_between.result (entries_at k b 12 n) in
    subst E (sym number)
    (extent-ascending k c.extent_between.result first rest (entry_in k b m) (subst (λ (n : ℕ). keys_ascend (entries_at k b 12 n) ≡ true) number ascend) (last-in k b (suc m) m None refl) least greatest)

pub returns-clause-count : goal.returns-clause-count
returns-clause-count c = λ fits.
    let b : List ℕ = c.args.block.now.bytes.now in
    let len = length-entries c.args.block.now.key_length b 12 (number_at 2 b 4) in
    let value = c.count-count.ensures.value in
    omega arith
