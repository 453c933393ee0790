use Rattle.std.proofs.Common.{◌≡◌, ◌+◌, arith, ◌++◌, ◌∷◌, [], ℕ, List, Option, Some, take, sym, ap, subst, ◌∙◌}
use Rattle.hd_bytes.specs.Numbers.{number_at}
use Rattle.hd_volume.specs.Entries.{Entry, entries_at}
use Rattle.hd_image.specs.IndexFaults.{last_entry, first_not_above}
use Rattle.hd_index_blocks.specs.Fields.{entry_in}
use Rattle.hd_check_index.specs.LeftKeys.{IsLeft}
use Rattle.hd_index_blocks.proofs.EntryLemmas.{entries-more}
use Rattle.hd_check_index.proofs.OrderSteps.{address-of, last-append}
use Rattle.hd_check_index.proofs.entry_order.not_above.Goals as goal

pub loop-index-preserved : goal.loop-index-preserved
loop-index-preserved c =
    let k : ℕ = c.args.block.now.key_length in
    let b : List ℕ = c.args.block.now.bytes.now in
    let n : ℕ = c.loop-index.index in
    let i = c.loop-index.invariant in
    let es : List Entry = entries_at k b 12 n in
    let e : Entry = entry_in k b n in
    let more : entries_at k b 12 (n + 1) ≡ es ++ (e ∷ []) = entries-more k b 12 n in
    let key : c.key-key.result.now ≡ e.key = c.key-key.ensures.value in
    let address : c.address-address.result ≡ e.address = c.address-address.ensures in
    record {
      found = λ o h.
          ap (λ (xs : List Entry). address-of (first_not_above o xs)) more
          ∙ ap (λ (x : Entry). address-of (first_not_above o (es ++ (x ∷ [])))) (λ j. record { key = sym key j; address = sym address j })
          ∙ c.found_more-found.ensures o es (i.left o h) (i.found o h);
      left = λ o h.
          (let last : last_entry o (entries_at k b 12 (n + 1)) ≡ Some e = ap (last_entry o) more ∙ last-append o es (e ∷ []) in
          let own : take k c.keep_key.new.left.key ≡ e.key = ap (λ (x : ℕ). take x c.keep_key.new.left.key) (sym c.key-key.ensures.len) ∙ c.keep_key.ensures.key ∙ key in
          subst (λ (q : Option Entry). IsLeft k c.keep_key.new.left q) (sym last) (c.keep_key.ensures.some, own));
    }

pub returns-clause-found : goal.returns-clause-found
returns-clause-found c = λ fits o h.
    let k : ℕ = c.args.block.now.key_length in
    let b : List ℕ = c.args.block.now.bytes.now in
    let last : c.loop-index.index ≡ number_at 2 b 4 = (let count = c.count-index-end.ensures.value in let high = c.loop-index-test.false in let low = c.loop-index.auto.index-end in omega arith) in
    subst (λ (n : ℕ). address-of (first_not_above o (entries_at k b 12 n)) ≡ c.loop-index.found) last (c.loop-index.invariant.found o h)

pub returns-clause-left : goal.returns-clause-left
returns-clause-left c = λ fits o h.
    let k : ℕ = c.args.block.now.key_length in
    let b : List ℕ = c.args.block.now.bytes.now in
    let last : c.loop-index.index ≡ number_at 2 b 4 = (let count = c.count-index-end.ensures.value in let high = c.loop-index-test.false in let low = c.loop-index.auto.index-end in omega arith) in
    subst (λ (n : ℕ). IsLeft k c.loop-index.left (last_entry o (entries_at k b 12 n))) last (c.loop-index.invariant.left o h)
