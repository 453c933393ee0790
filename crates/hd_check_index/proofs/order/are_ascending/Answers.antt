use Rattle.std.proofs.Common.{◌≡◌, ◌+◌, ◌-◌, ℕ, suc, List, Option, None, Some, true, refl, sym, ap, subst, ◌∙◌, arith}
use Rattle.std.specs.Option.{option_map_or}
use Rattle.hd_bytes.specs.Numbers.{number_at}
use Rattle.hd_bytes.specs.Ranges.{bytes_at}
use Rattle.hd_volume.specs.Entries.{Entry, entries_at}
use Rattle.hd_volume.specs.Indexes.{key_less, keys_ascend, is_below_first}
use Rattle.hd_index_blocks.specs.Fields.{entry_in}
use Rattle.hd_index_blocks.proofs.EntryLemmas.{entries-more}
use Rattle.hd_index_blocks.specs.LevelFaults.{last_entry}
use Rattle.hd_check_index.proofs.BlockExtents.{ascend-more}
use Rattle.hd_check_index.proofs.EntryOrders.{above-last, first-key, last-in}
use Rattle.hd_check_index.proofs.order.are_ascending.Goals as goal

pub loop-index-init : goal.loop-index-init
loop-index-init c = record {
  ascend = refl;
  last = sym (c.key-before.ensures.value ∙ first-key c.args.block.now.key_length c.args.block.now.bytes.now);
  long = c.key-before.ensures.len;
}

pub is_less-requires : goal.is_less-requires
is_less-requires c = record { as_long = c.loop-index.invariant.long ∙ sym c.key-key.ensures.len }

pub loop-index-preserved : goal.loop-index-preserved
loop-index-preserved c =
    let k : ℕ = c.args.block.now.key_length in
    let b : List ℕ = c.args.block.now.bytes.now in
    let n : ℕ = c.loop-index.index in
    let es : List Entry = entries_at k b 12 n in
    let e : Entry = entry_in k b n in
    let i = c.loop-index.invariant in
    let own : c.key-key.result.now ≡ e.key = c.key-key.ensures.value in
    let less : key_less c.loop-index.before.now e.key ≡ true =
    ap (λ (t : List ℕ). key_less c.loop-index.before.now t) (sym own) ∙ sym c.is_less.ensures ∙ c.if-not-is_less.false in
    let last : last_entry None (entries_at k b 12 (n + 1)) ≡ Some e = last-in k b (n + 1) n None (let z : n + 1 ≡ suc n = omega arith in z) in
    record {
      ascend = ap keys_ascend (entries-more k b 12 n) ∙ ascend-more es e i.ascend (above-last (last_entry None es) c.loop-index.before.now e.key i.last less);
      last = ap (λ (o : Option Entry). option_map_or (λ (x : Entry). x.key) o c.key-key.result.now) last ∙ sym own;
      long = c.key-key.ensures.len;
    }

pub returns-clause-ascend : goal.returns-clause-ascend
returns-clause-ascend c = λ _ fits.
    let k : ℕ = c.args.block.now.key_length in
    let b : List ℕ = c.args.block.now.bytes.now in
    let last : c.loop-index.index ≡ number_at 2 b 4 = (let count = c.count-count.ensures.value in let some = c.if-count-eq0.false in let high = c.loop-index-test.false in let low = c.loop-index.auto.index-end in omega arith) in
    subst (λ (n : ℕ). keys_ascend (entries_at k b 12 n) ≡ true) last c.loop-index.invariant.ascend

pub returns-clause-above : goal.returns-clause-above
returns-clause-above c = λ _ fits o h.
    let k : ℕ = c.args.block.now.key_length in
    let b : List ℕ = c.args.block.now.bytes.now in
    let m : ℕ = c.count-count.result - 1 in
    let number : number_at 2 b 4 ≡ suc m = (let count = c.count-count.ensures.value in let some = c.if-count-eq0.false in omega arith) in
    let key : c.key-before.result.now ≡ bytes_at b 12 k = c.key-before.ensures.value ∙ first-key k b in
    ap (λ (n : ℕ). option_map_or (λ (l : Entry). is_below_first l.key (entries_at k b 12 n)) o true) number
    ∙ ap (λ (t : List ℕ). option_map_or (λ (l : Entry). key_less l.key t) o true) (sym key)
    ∙ sym (c.is_above.ensures o h) ∙ c.if-not-is_above.false
