use Rattle.std.proofs.Common.{◌≡◌, ◌+◌, ◌*◌, ◌≤◌, ℕ, List, length, Some, true, false, sym, ap, ◌∙◌, arith}
use Rattle.std.specs.Prelude.{slice_get, bytes_eq}
use Rattle.std.proofs.lemmas.Bool.{not-true, not-false}
use Rattle.hd_bytes.specs.Numbers.{number_at}
use Rattle.hd_volume.specs.Entries.{Entry, entries_in}
use Rattle.hd_index_blocks.specs.Fields.{below_count}
use Rattle.hd_index_blocks.proofs.BlockLemmas.{entry_of, length-entries, entry-get}
use Rattle.hd_index.specs.EditedBlocks.{with_address_at}
use Rattle.hd_index.proofs.Places.{below-all, address-past, address-here, address-none}
use Rattle.hd_index.proofs.Addressing.{address-set}
use Rattle.hd_index.proofs.address.place_in.Goals.{then-index-count-via-then-index-count, then-index-count-via-else-index-count+then-ne}
use Rattle.hd_index.proofs.address.place_in.Goals as goal

pub returns-then-index-count-clause-none : goal.returns-then-index-count-clause-none
returns-then-index-count-clause-none c fits ascend none =
    let b = c.args.block.now.bytes.now in
    let k = c.args.block.now.key_length in
    let key = c.args.key.now in
    let v = c.count-count.ensures.value in
    let len : length (entries_in k b) ≡ number_at 2 b 4 = length-entries k b 12 (number_at 2 b 4) in
    let place : c.place_of-index.result ≡ below_count key (entries_in k b) = c.place_of-index.ensures.value fits ascend in
    elim c.then-index-count.branch [
      | then-index-count-via-then-index-count w ↦
          (let past : length (entries_in k b) ≤ below_count key (entries_in k b) = (let t = w.if-index-count.true in omega arith) in
          address-past key (entries_in k b) (below-all key (entries_in k b) past))
      | then-index-count-via-else-index-count+then-ne w ↦
          (let x : Entry = entry_of k b (12 + c.place_of-index.result * (k + 4)) in
          let get : slice_get (entries_in k b) c.place_of-index.result ≡ Some x = entry-get k b 12 (number_at 2 b 4) c.place_of-index.result (let f = w.if-index-count.false in omega arith) in
          let here : slice_get (entries_in k b) (below_count key (entries_in k b)) ≡ Some x = ap (slice_get (entries_in k b)) (sym place) ∙ get in
          let other : bytes_eq x.key key ≡ false = ap (λ (y : List ℕ). bytes_eq y key) (sym w.key.ensures.value) ∙ not-true (bytes_eq w.key.result.now key) (sym w.ne.ensures ∙ w.if-ne.true) in
          address-none key (entries_in k b) x here other ascend)
    ]

pub returns-clause-place : goal.returns-clause-place
returns-clause-place c fits ascend =
    let b = c.args.block.now.bytes.now in
    let k = c.args.block.now.key_length in
    let key = c.args.key.now in
    let i : ℕ = c.place_of-index.result in
    let v = c.count-count.ensures.value in
    let len : length (entries_in k b) ≡ number_at 2 b 4 = length-entries k b 12 (number_at 2 b 4) in
    let x : Entry = entry_of k b (12 + i * (k + 4)) in
    let place : i ≡ below_count key (entries_in k b) = c.place_of-index.ensures.value fits ascend in
    let get : slice_get (entries_in k b) i ≡ Some x = entry-get k b 12 (number_at 2 b 4) i (let f = c.if-index-count.false in omega arith) in
    let here : slice_get (entries_in k b) (below_count key (entries_in k b)) ≡ Some x = ap (slice_get (entries_in k b)) (sym place) ∙ get in
    let same : bytes_eq x.key key ≡ true = ap (λ (y : List ℕ). bytes_eq y key) (sym c.key.ensures.value) ∙ not-false (bytes_eq c.key.result.now key) (sym c.ne.ensures ∙ c.if-ne.false) in
    record {
      at = λ address. address-set key address (entries_in k b) x here same ∙ ap (λ (j : ℕ). with_address_at j address (entries_in k b)) (sym place);
      count_is = omega arith;
    }

pub returns-clause-there : goal.returns-clause-there
returns-clause-there c fits ascend none =
    let b = c.args.block.now.bytes.now in
    let k = c.args.block.now.key_length in
    let key = c.args.key.now in
    let i : ℕ = c.place_of-index.result in
    let v = c.count-count.ensures.value in
    let x : Entry = entry_of k b (12 + i * (k + 4)) in
    let place : i ≡ below_count key (entries_in k b) = c.place_of-index.ensures.value fits ascend in
    let get : slice_get (entries_in k b) i ≡ Some x = entry-get k b 12 (number_at 2 b 4) i (let f = c.if-index-count.false in omega arith) in
    let here : slice_get (entries_in k b) (below_count key (entries_in k b)) ≡ Some x = ap (slice_get (entries_in k b)) (sym place) ∙ get in
    let same : bytes_eq x.key key ≡ true = ap (λ (y : List ℕ). bytes_eq y key) (sym c.key.ensures.value) ∙ not-false (bytes_eq c.key.result.now key) (sym c.ne.ensures ∙ c.if-ne.false) in
    let found = address-here key (entries_in k b) x here same in
    cc
