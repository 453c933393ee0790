use Rattle.std.proofs.Common.{◌≡◌, ◌≢◌, ℕ, None, IfSome, length, arith}
use Rattle.hd_bytes.specs.Numbers.{number_at}
use Rattle.hd_volume.specs.Entries.{entries_in}
use Rattle.hd_index_blocks.specs.Fields.{below_count}
use Rattle.hd_index_blocks.specs.Maps.{address_of}
use Rattle.hd_index_blocks.specs.Searches.{IfInOrder}
use Rattle.hd_index_blocks.proofs.BlockLemmas.{length-entries}
use Rattle.hd_index.specs.declared.address.Place.{Place}
use Rattle.hd_index.specs.Searches.{IsPlaceOf}
use Rattle.hd_index.proofs.CallLemmas.{if-some-both}
use Rattle.hd_index.proofs.near.spare_in.Goals as goal

pub returns-clause-spare : goal.returns-clause-spare
returns-clause-spare c =
    let b = c.args.block.now.bytes.now in
    let k = c.args.block.now.key_length in
    let key = c.args.key.now in
    let O : Place → Type 0 = λ place. IfInOrder k b (IsPlaceOf key (entries_in k b) place) × IfInOrder k b (place.index ≡ below_count key (entries_in k b)) in
    let own : IfSome c.place_in.result O = if-some-both c.place_in.result (λ place at index. (at, index)) c.place_in.ensures.place c.place_in.ensures.index in
    if-some-both c.place_in.result
    (λ (place : Place) (at : O place) (there : IfInOrder k b (address_of key (entries_in k b) ≢ None)) fits ascend.
    let count = (at.0 fits ascend).count_is in
    let len : length (entries_in k b) ≡ number_at 2 b 4 = length-entries k b 12 (number_at 2 b 4) in
    record {
      level = (let e = c.level.ensures in let l = c.if-level-ne0.false in omega arith);
      index_is = at.1 fits ascend;
      count_is = omega arith;
      there = there fits ascend;
      more = (let v = c.count.ensures.value in let m = c.if-count-lt2.false in omega arith);
    })
    own c.place_in.ensures.there
