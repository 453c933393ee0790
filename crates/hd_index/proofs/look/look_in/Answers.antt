use Rattle.std.proofs.Common.{◌≡◌, ◌+◌, ◌*◌, ◌≤◌, ℕ, List, length, Some, true, false, sym, ap, ◌∙◌, arith}
use Rattle.std.specs.Prelude.{slice_get, bytes_eq}
use Rattle.hd_bytes.specs.Numbers.{number_at}
use Rattle.hd_volume.specs.Entries.{Entry, entries_in}
use Rattle.hd_index_blocks.specs.Fields.{below_count}
use Rattle.hd_index_blocks.proofs.BlockLemmas.{entry_of, length-entries, entry-get}
use Rattle.hd_index.proofs.Places.{below-all, address-past, from-past, from-here, address-here, address-none}
use Rattle.hd_index.proofs.look.look_in.Goals as goal

pub returns-then-index-count-clause-equal : goal.returns-then-index-count-clause-equal
returns-then-index-count-clause-equal c fits ascend =
    let b = c.args.block.now.bytes.now in
    let k = c.args.block.now.key_length in
    let key = c.args.key.now in
    let len : length (entries_in k b) ≡ number_at 2 b 4 = length-entries k b 12 (number_at 2 b 4) in
    let v = c.count.ensures.value in
    let place : c.place_of-index.result ≡ below_count key (entries_in k b) = c.place_of-index.ensures.value fits ascend in
    let past : length (entries_in k b) ≤ below_count key (entries_in k b) = (let t = c.if-index-count.true in omega arith) in
    sym (address-past key (entries_in k b) (below-all key (entries_in k b) past))

pub returns-then-index-count-clause-from : goal.returns-then-index-count-clause-from
returns-then-index-count-clause-from c fits ascend =
    let b = c.args.block.now.bytes.now in
    let k = c.args.block.now.key_length in
    let key = c.args.key.now in
    let len : length (entries_in k b) ≡ number_at 2 b 4 = length-entries k b 12 (number_at 2 b 4) in
    let v = c.count.ensures.value in
    let place : c.place_of-index.result ≡ below_count key (entries_in k b) = c.place_of-index.ensures.value fits ascend in
    let past : length (entries_in k b) ≤ below_count key (entries_in k b) = (let t = c.if-index-count.true in omega arith) in
    sym (from-past key (entries_in k b) (below-all key (entries_in k b) past))

pub returns-then-eq-clause-equal : goal.returns-then-eq-clause-equal
returns-then-eq-clause-equal c fits ascend =
    let b = c.args.block.now.bytes.now in
    let k = c.args.block.now.key_length in
    let key = c.args.key.now in
    let v = c.count.ensures.value in
    let x : Entry = entry_of k b (12 + c.place_of-index.result * (k + 4)) in
    let place : c.place_of-index.result ≡ below_count key (entries_in k b) = c.place_of-index.ensures.value fits ascend in
    let get : slice_get (entries_in k b) c.place_of-index.result ≡ Some x = entry-get k b 12 (number_at 2 b 4) c.place_of-index.result (let f = c.if-index-count.false in omega arith) in
    let here : slice_get (entries_in k b) (below_count key (entries_in k b)) ≡ Some x = ap (slice_get (entries_in k b)) (sym place) ∙ get in
    let same : bytes_eq x.key key ≡ true = ap (λ (y : List ℕ). bytes_eq y key) (sym c.key.ensures.value) ∙ sym c.eq.ensures ∙ c.if-eq.true in
    ap (λ (y : ℕ). Some y) c.address-address.ensures ∙ sym (address-here key (entries_in k b) x here same)

pub returns-then-eq-clause-from : goal.returns-then-eq-clause-from
returns-then-eq-clause-from c fits ascend =
    let b = c.args.block.now.bytes.now in
    let k = c.args.block.now.key_length in
    let key = c.args.key.now in
    let v = c.count.ensures.value in
    let x : Entry = entry_of k b (12 + c.place_of-index.result * (k + 4)) in
    let place : c.place_of-index.result ≡ below_count key (entries_in k b) = c.place_of-index.ensures.value fits ascend in
    let get : slice_get (entries_in k b) c.place_of-index.result ≡ Some x = entry-get k b 12 (number_at 2 b 4) c.place_of-index.result (let f = c.if-index-count.false in omega arith) in
    let here : slice_get (entries_in k b) (below_count key (entries_in k b)) ≡ Some x = ap (slice_get (entries_in k b)) (sym place) ∙ get in
    ap (λ (y : ℕ). Some y) c.address-address.ensures ∙ sym (from-here key (entries_in k b) x here)

pub returns-else-eq-clause-equal : goal.returns-else-eq-clause-equal
returns-else-eq-clause-equal c fits ascend =
    let b = c.args.block.now.bytes.now in
    let k = c.args.block.now.key_length in
    let key = c.args.key.now in
    let v = c.count.ensures.value in
    let x : Entry = entry_of k b (12 + c.place_of-index.result * (k + 4)) in
    let place : c.place_of-index.result ≡ below_count key (entries_in k b) = c.place_of-index.ensures.value fits ascend in
    let get : slice_get (entries_in k b) c.place_of-index.result ≡ Some x = entry-get k b 12 (number_at 2 b 4) c.place_of-index.result (let f = c.if-index-count.false in omega arith) in
    let here : slice_get (entries_in k b) (below_count key (entries_in k b)) ≡ Some x = ap (slice_get (entries_in k b)) (sym place) ∙ get in
    let other : bytes_eq x.key key ≡ false = ap (λ (y : List ℕ). bytes_eq y key) (sym c.key.ensures.value) ∙ sym c.eq.ensures ∙ c.if-eq.false in
    sym (address-none key (entries_in k b) x here other ascend)

pub returns-else-eq-clause-from : goal.returns-else-eq-clause-from
returns-else-eq-clause-from c fits ascend =
    let b = c.args.block.now.bytes.now in
    let k = c.args.block.now.key_length in
    let key = c.args.key.now in
    let v = c.count.ensures.value in
    let x : Entry = entry_of k b (12 + c.place_of-index.result * (k + 4)) in
    let place : c.place_of-index.result ≡ below_count key (entries_in k b) = c.place_of-index.ensures.value fits ascend in
    let get : slice_get (entries_in k b) c.place_of-index.result ≡ Some x = entry-get k b 12 (number_at 2 b 4) c.place_of-index.result (let f = c.if-index-count.false in omega arith) in
    let here : slice_get (entries_in k b) (below_count key (entries_in k b)) ≡ Some x = ap (slice_get (entries_in k b)) (sym place) ∙ get in
    ap (λ (y : ℕ). Some y) c.address-address.ensures ∙ sym (from-here key (entries_in k b) x here)
