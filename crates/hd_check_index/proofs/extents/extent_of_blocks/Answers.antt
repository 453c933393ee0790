use Rattle.std.proofs.Common.{◌≡◌, ◌+◌, ◌++◌, ◌∷◌, [], ℕ, List, length, take, slice_index, refl, sym, ap, subst, ◌∙◌, arith}
use Rattle.std.proofs.lemmas.List.{take_more, take_all}
use Rattle.hd_volume.specs.Entries.{Entry}
use Rattle.hd_index_blocks.specs.Levels.{entries_below}
use Rattle.hd_index_blocks.proofs.Levels.{entries-append, entries-none}
use Rattle.hd_check_index.specs.Extents.{IsExtent}
use Rattle.hd_check_index.proofs.BlockExtents.{extents-length, extents-at}
use Rattle.hd_check_index.proofs.extents.extent_of_blocks.Goals as goal

pub loop-index-preserved : goal.loop-index-preserved
loop-index-preserved c = record {
  extent = λ b l ns h some.
      (let k : ℕ = c.args.key_length in
      let i : ℕ = c.loop-index.index in
      let n : ℕ = slice_index ns i in
      let less = c.loop-index-test.true in
      let len = extents-length k b l ns c.args.blocks.now h in
      let more : take (i + 1) ns ≡ take i ns ++ (n ∷ []) = take_more ns i 0 (omega arith) in
      let both : entries_below b l (take (i + 1) ns) ≡ entries_below b l (take i ns) ++ entries_below b l (n ∷ []) = ap (entries_below b l) more ∙ entries-append b l (take i ns) (n ∷ []) in
      let E : List Entry → Type 0 = λ t. IsExtent k c.widen.new.extent t in
      subst E (sym both)
      (c.widen.ensures (entries_below b l (take i ns)) (λ z. ap (λ (j : ℕ). entries_below b l (take j ns)) z ∙ entries-none b l) (c.loop-index.invariant.extent b l ns h)
      (entries_below b l (n ∷ [])) _ refl refl (extents-at k b l ns c.args.blocks.now i _ h less)));
}

pub returns : goal.returns
returns c = λ b l ns some h.
    let k : ℕ = c.args.key_length in
    let len = extents-length k b l ns c.args.blocks.now h in
    let last : c.loop-index.index ≡ length ns = (let high = c.loop-index-test.false in let low = c.loop-index.auto.index-end in omega arith) in
    let whole : take c.loop-index.index ns ≡ ns = take_all c.loop-index.index ns (omega arith) in
    let E : List ℕ → Type 0 = λ t. IsExtent k c.loop-index.extent (entries_below b l t) in
    subst E whole (c.loop-index.invariant.extent b l ns h (let high = c.loop-index-test.false in omega arith))
