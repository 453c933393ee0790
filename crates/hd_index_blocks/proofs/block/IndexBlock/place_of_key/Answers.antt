use Rattle.std.proofs.Common.{◌≡◌, ℕ, List, true, false, arith, sym, ap, ◌∙◌}
use Rattle.std.specs.Ordering.{nat_cmp, is_lt}
use Rattle.std.specs.Cmp.Lexicographic.{slice_cmp}
use Rattle.hd_bytes.specs.Numbers.{number_at}
use Rattle.hd_bytes.specs.Ranges.{bytes_at}
use Rattle.hd_volume.specs.Entries.{entries_at}
use Rattle.hd_volume.specs.Indexes.{key_less, keys_ascend}
use Rattle.hd_index_blocks.specs.Fields.{entry_place, below_count}
use Rattle.hd_index_blocks.proofs.BlockLemmas.{below-at, below-through, above-through, equal-at}
use Rattle.hd_index_blocks.proofs.block.IndexBlock.place_of_key.Goals as goal

pub loop-low-preserved-in-Less : goal.loop-low-preserved-in-Less
loop-low-preserved-in-Less c =
    let inv = c.loop-low.invariant in
    let k : ℕ = c.args.self.now.key_length in
    let b : List ℕ = c.args.self.now.bytes.now in
    let key : List ℕ = c.args.key.now in
    let m : ℕ = c.middle_of-middle.result in
    let within = c.middle_of-middle.ensures in
    let order = c.compare_keys.ensures ∙ ap (λ (z : List ℕ). slice_cmp nat_cmp z key) c.key.ensures.value in
    let less : key_less (bytes_at b (entry_place k m) k) key ≡ true = sym (ap is_lt order) ∙ ap is_lt c.in-Less.is in
    record {
      order = omega arith;
      most = inv.most;
      below = λ ascend j l. below-through k b key 12 c.count-count.result m j ascend (omega arith) less l;
      above = inv.above;
    }

pub loop-low-preserved : goal.loop-low-preserved
loop-low-preserved c =
    let inv = c.loop-low.invariant in
    let k : ℕ = c.args.self.now.key_length in
    let b : List ℕ = c.args.self.now.bytes.now in
    let key : List ℕ = c.args.key.now in
    let m : ℕ = c.middle_of-middle.result in
    let within = c.middle_of-middle.ensures in
    let order = c.compare_keys.ensures ∙ ap (λ (z : List ℕ). slice_cmp nat_cmp z key) c.key.ensures.value in
    let more : key_less (bytes_at b (entry_place k m) k) key ≡ false = sym (ap is_lt order) ∙ ap is_lt c.in-Greater.is in
    record {
      order = omega arith;
      most = omega arith;
      below = inv.below;
      above = λ ascend j h l. above-through k b key 12 c.count-count.result m j ascend more h l;
    }

pub returns-in-Equal-clause-value : goal.returns-in-Equal-clause-value
returns-in-Equal-clause-value c fits up =
    let inv = c.loop-low.invariant in
    let k : ℕ = c.args.self.now.key_length in
    let b : List ℕ = c.args.self.now.bytes.now in
    let key : List ℕ = c.args.key.now in
    let m : ℕ = c.middle_of-middle.result in
    let within = c.middle_of-middle.ensures in
    let same : number_at 2 b 4 ≡ c.count-count.result = (let v = c.count-count.ensures.value in omega arith) in
    let order = c.compare_keys.ensures ∙ ap (λ (z : List ℕ). slice_cmp nat_cmp z key) c.key.ensures.value in
    sym (equal-at k b key 12 (number_at 2 b 4) m up (omega arith) (sym order ∙ c.in-Equal.is))

pub returns-clause-value : goal.returns-clause-value
returns-clause-value c fits up =
    let inv = c.loop-low.invariant in
    let k : ℕ = c.args.self.now.key_length in
    let b : List ℕ = c.args.self.now.bytes.now in
    let same : number_at 2 b 4 ≡ c.count-count.result = (let v = c.count-count.ensures.value in omega arith) in
    let ascend : keys_ascend (entries_at k b 12 c.count-count.result) ≡ true = ap (λ (n : ℕ). keys_ascend (entries_at k b 12 n)) (sym same) ∙ up in
    sym (ap (λ (n : ℕ). below_count c.args.key.now (entries_at k b 12 n)) same
    ∙ below-at k b c.args.key.now 12 c.count-count.result c.loop-low.low (omega arith) (inv.below ascend) (λ l. inv.above ascend c.loop-low.low (omega arith) l))
