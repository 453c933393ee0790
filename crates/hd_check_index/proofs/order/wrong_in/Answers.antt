use Rattle.std.proofs.Common.{◌≡◌, ◌+◌, ◌<◌, arith, ◌++◌, ◌∷◌, [], ℕ, List, Option, None, Some, Bool, take, drop, sym, ap, subst, ◌∙◌}
use Rattle.std.proofs.lemmas.List.{drop_all}
use Rattle.hd_bytes.specs.Numbers.{number_at}
use Rattle.hd_volume.specs.Entries.{Entry, entries_at, entries_in}
use Rattle.hd_index_blocks.specs.Fields.{entry_in}
use Rattle.hd_index_blocks.proofs.BlockLemmas.{length-entries}
use Rattle.hd_index_blocks.proofs.EntryLemmas.{entries-more}
use Rattle.hd_index_blocks.specs.LevelFaults.{last_entry, first_entry, is_right_entry}
use Rattle.hd_check_index.specs.EntryOrders.{IsLeft, found_with, address_wrong}
use Rattle.hd_index_blocks.proofs.RowFaults.{last-append}
use Rattle.hd_check_index.proofs.EntryOrders.{wrong-more, entries-from, drop-front}
use Rattle.hd_check_index.proofs.order.wrong_in.Goals as goal

pub loop-index-preserved : goal.loop-index-preserved
loop-index-preserved c =
    let k : ℕ = c.args.block.now.key_length in
    let b : List ℕ = c.args.block.now.bytes.now in
    let n : ℕ = c.loop-index.index in
    let l : ℕ = c.args.level in
    let i = c.loop-index.invariant in
    let all : List Entry = entries_in k b in
    let es : List Entry = entries_at k b 12 n in
    let e : Entry = entry_in k b n in
    let more : entries_at k b 12 (n + 1) ≡ es ++ (e ∷ []) = entries-more k b 12 n in
    let key : c.key-key.result.now ≡ e.key = c.key-key.ensures.value in
    let own_address : c.address-address.result ≡ e.address = c.address-address.ensures in
    let less : n < number_at 2 b 4 = (let count = c.count-index-end.ensures.value in let low = c.loop-index-test.true in omega arith) in
    let from : drop n all ≡ e ∷ drop (n + 1) all = entries-from k b (number_at 2 b 4) n less in
    record {
      found = λ a rs o below h.
          (let right : Option Entry = first_entry (drop (n + 1) all ++ rs) None in
          let len = length-entries k b 12 (number_at 2 b 4) in
          let here : drop n (all ++ rs) ≡ e ∷ (drop (n + 1) all ++ rs) = drop-front n all rs (omega arith) ∙ ap (λ (t : List Entry). t ++ rs) from in
          let next : first_entry (drop n all ++ rs) None ≡ Some e = ap (λ (t : List Entry). first_entry (t ++ rs) None) from in
          let before : address_wrong a l o es (Some e) ≡ c.loop-index.found = ap (address_wrong a l o es) (sym next) ∙ i.found a rs o below h in
          let is : c.is_right-is_right.result ≡ is_right_entry a l (last_entry o es) e right = c.is_right-is_right.ensures (last_entry o es) (i.left o h) a (all ++ rs) e (drop (n + 1) all ++ rs) below here key in
          ap (λ (t : List Entry). address_wrong a l o t right) more ∙ wrong-more a l o es e right
          ∙ ap (λ (f : Option ℕ). found_with f (is_right_entry a l (last_entry o es) e right) e.address) before
          ∙ ap (λ (r : Bool). found_with c.loop-index.found r e.address) (sym is)
          ∙ ap (found_with c.loop-index.found c.is_right-is_right.result) (sym own_address) ∙ sym c.found_more-found.ensures);
      left = λ o h.
          (let last : last_entry o (entries_at k b 12 (n + 1)) ≡ Some e = ap (last_entry o) more ∙ last-append o es (e ∷ []) in
          let own : take k c.keep_key.new.left.key ≡ e.key = ap (λ (x : ℕ). take x c.keep_key.new.left.key) (sym c.key-key.ensures.len) ∙ c.keep_key.ensures.key ∙ key in
          subst (λ (q : Option Entry). IsLeft k c.keep_key.new.left q) (sym last) (c.keep_key.ensures.some, own));
    }

pub returns-clause-found : goal.returns-clause-found
returns-clause-found c = λ fits a rs o below h.
    let k : ℕ = c.args.block.now.key_length in
    let b : List ℕ = c.args.block.now.bytes.now in
    let all : List Entry = entries_in k b in
    let last : c.loop-index.index ≡ number_at 2 b 4 = (let count = c.count-index-end.ensures.value in let high = c.loop-index-test.false in let low = c.loop-index.auto.index-end in omega arith) in
    let none : drop c.loop-index.index all ≡ [] = (let len = length-entries k b 12 (number_at 2 b 4) in drop_all c.loop-index.index all (omega arith)) in
    ap (λ (t : List Entry). address_wrong a c.args.level o all (first_entry (t ++ rs) None)) (sym none)
    ∙ ap (λ (n : ℕ). address_wrong a c.args.level o (entries_at k b 12 n) (first_entry (drop c.loop-index.index all ++ rs) None)) (sym last)
    ∙ c.loop-index.invariant.found a rs o below h

pub returns-clause-left : goal.returns-clause-left
returns-clause-left c = λ fits o h.
    let k : ℕ = c.args.block.now.key_length in
    let b : List ℕ = c.args.block.now.bytes.now in
    let last : c.loop-index.index ≡ number_at 2 b 4 = (let count = c.count-index-end.ensures.value in let high = c.loop-index-test.false in let low = c.loop-index.auto.index-end in omega arith) in
    subst (λ (n : ℕ). IsLeft k c.loop-index.left (last_entry o (entries_at k b 12 n))) last (c.loop-index.invariant.left o h)
