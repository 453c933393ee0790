use Rattle.std.proofs.Common.{◌≡◌, ◌+◌, ◌-◌, ◌<◌, ◌%◌, ℕ, List, [], ◌++◌, length, ap, sym, ◌∙◌, arith}
use Rattle.std.proofs.lemmas.List.{append-nil}
use Rattle.hd_dbd.specs.Facts.{table_from, segment_size, stored_sizes}
use Rattle.hd_dbd.specs.declared.facts.SegmentSize.{SegmentSize}
use Rattle.hd_dbd.proofs.Tables.{table_more}
use Rattle.hd_block.specs.Sizes.{size_at}
use Rattle.hd_block.proofs.SizeLemmas.{sizes-whole, sizes-fit}
use Rattle.hd_volume.proofs.load.size_table.Goals as goal

pub loop-place-preserved : goal.loop-place-preserved
loop-place-preserved c =
    let n : ℕ = length c.args.dbd.now.types in
    let i : ℕ = c.loop-place.place in
    let count : length c.types-count.result.now ≡ n = ap length c.types-count.ensures.types in
    let below : i < n = omega (arith, c.loop-place-test.true) in (
      count,
      ap (λ (xs : List SegmentSize). xs ++ table_from (segment_size c.args.dbd.now.types) (i + 1 + 1) (n - (i + 1))) c.in_ok-push-2.ensures.items
          ∙ table_more (segment_size c.args.dbd.now.types) c.loop-place.sizes.items c.segment_size.result i n below c.segment_size.ensures ∙ c.loop-place.invariant.1,
    )

pub returns-clause-fit : goal.returns-clause-fit
returns-clause-fit c =
    let types = c.args.dbd.now.types in
    let n : ℕ = length types in
    let count : length c.types-count.result.now ≡ n = ap length c.types-count.ensures.types in
    let done : n - c.loop-place.place ≡ 0 = omega (arith, c.loop-place-test.false) in
    let all : c.loop-place.sizes.items ++ [] ≡ stored_sizes types = rw done at c.loop-place.invariant.1 in
    let is : c.loop-place.sizes.items ≡ stored_sizes types = sym (append-nil c.loop-place.sizes.items) ∙ all in
    record {
      fit = λ bytes place.
          let e : size_at c.loop-place.sizes.items bytes place ≡ size_at (stored_sizes types) bytes place = ap (λ (t : List SegmentSize). size_at t bytes place) is in
          let f = sizes-fit c.args.dbd.now.block_size c.args.dbd.now.frspc types bytes place c.types-count.ensures.fit in omega arith;
      whole = λ bytes place. ap (λ (t : List SegmentSize). size_at t bytes place % 8) is ∙ sizes-whole types bytes place;
    }
