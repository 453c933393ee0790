use Rattle.std.proofs.Common.{ℕ, List, Option, None, ap, sym, ◌∙◌, arith}
use Rattle.std.specs.Prelude.{option_map}
use Rattle.hd_bytes.specs.Numbers.{number_at}
use Rattle.hd_volume.specs.Entries.{Entry, entries_in}
use Rattle.hd_index_blocks.proofs.BlockLemmas.{length-entries}
use Rattle.hd_index_blocks.specs.LevelFaults.{first_entry}
use Rattle.hd_check_index.specs.EntryOrders.{address_wrong}
use Rattle.hd_check_index.proofs.BlockExtents.{extent-lowest}
use Rattle.hd_check_index.proofs.EntryOrders.{right-ascending}
use Rattle.hd_check_index.proofs.order.judge_entries.Goals as goal

pub returns-then-are_ascending-clause-found : goal.returns-then-are_ascending-clause-found
returns-then-are_ascending-clause-found c = λ fits a rs o below h.
    let es : List Entry = entries_in c.args.block.now.key_length c.args.block.now.bytes.now in
    let right : Option Entry = first_entry rs None in
    ap (λ (l : ℕ). address_wrong a l o es right) c.if-level-eq0.true
    ∙ ap (λ (q : Option Entry). option_map (λ (e : Entry). e.address) q) (right-ascending a o es right (c.are_ascending.ensures.above c.if-are_ascending.true fits o h) (c.are_ascending.ensures.ascend c.if-are_ascending.true fits))
    ∙ sym c.judge_ascending.ensures.none

pub returns-then-are_ascending-clause-extent : goal.returns-then-are_ascending-clause-extent
returns-then-are_ascending-clause-extent c = λ fits some.
    let k : ℕ = c.args.block.now.key_length in
    let es : List Entry = entries_in k c.args.block.now.bytes.now in
    extent-lowest k c.args.level es c.args.below.now c.judge_ascending.result.extent c.if-level-eq0.true (c.judge_ascending.ensures.extent fits (c.are_ascending.ensures.ascend c.if-are_ascending.true fits))

pub returns-clause-count : goal.returns-clause-count
returns-clause-count c = λ fits.
    let b : List ℕ = c.args.block.now.bytes.now in
    let len = length-entries c.args.block.now.key_length b 12 (number_at 2 b 4) in
    let value = c.count-count.ensures.value in
    omega arith
