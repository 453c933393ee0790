use Rattle.std.proofs.Common.{◌≡◌, ◌∷◌, [], ℕ, List, length, take, sym, ap, subst, ◌∙◌, arith}
use Rattle.std.proofs.lemmas.List.{take_all}
use Rattle.hd_bytes.specs.Numbers.{number_at}
use Rattle.hd_volume.specs.Entries.{Entry, entries_at}
use Rattle.hd_index_blocks.specs.Fields.{entry_in}
use Rattle.hd_index_blocks.proofs.EntryLemmas.{entries-more}
use Rattle.hd_check_index.specs.declared.extents.Extent.{Extent}
use Rattle.hd_check_index.specs.Extents.{IsExtent}
use Rattle.hd_check_index.proofs.BlockExtents.{extent-one}
use Rattle.hd_check_index.proofs.extents.extent_of_entries.Goals as goal

pub loop-index-preserved : goal.loop-index-preserved
loop-index-preserved c =
    let k : ℕ = c.args.block.now.key_length in
    let b : List ℕ = c.args.block.now.bytes.now in
    let n : ℕ = c.loop-index.index in
    let es : List Entry = entries_at k b 12 n in
    let e : Entry = entry_in k b n in
    let key : List ℕ = c.key-key.result.now in
    let len : length key ≡ k = c.key-key.ensures.len in
    let x : Extent = record { least = key; greatest = key } in
    let is : take k key ≡ e.key = ap (λ (i : ℕ). take i key) (sym len) ∙ take_all (length key) key (omega arith) ∙ c.key-key.ensures.value in
    let own : take k key ≡ key = is ∙ sym c.key-key.ensures.value in
    let E : List Entry → Type 0 = λ t. IsExtent k c.widen.new.extent t in
    record {
      extent = λ some. subst E (sym (entries-more k b 12 n)) (c.widen.ensures es (λ z. ap (entries_at k b 12) z) c.loop-index.invariant.extent (e ∷ []) x own own (extent-one k x e is is));
    }

pub returns : goal.returns
returns c = λ fits some.
    let k : ℕ = c.args.block.now.key_length in
    let b : List ℕ = c.args.block.now.bytes.now in
    let last : c.loop-index.index ≡ number_at 2 b 4 = (let count = c.count-index-end.ensures.value in let high = c.loop-index-test.false in let low = c.loop-index.auto.index-end in omega arith) in
    let E : ℕ → Type 0 = λ n. IsExtent k c.loop-index.extent (entries_at k b 12 n) in
    subst E last (c.loop-index.invariant.extent (omega arith))
