use Rattle.std.proofs.Common.{◌≡◌, ◌+◌, ◌-◌, ◌/◌, ℕ, List, true, false, arith, sym, ap, ◌∙◌}
use Rattle.hd_bytes.specs.Numbers.{number_at}
use Rattle.hd_bytes.specs.Ranges.{bytes_at}
use Rattle.hd_volume.specs.Entries.{entries_at}
use Rattle.hd_volume.specs.Indexes.{key_less, keys_ascend}
use Rattle.hd_index_blocks.specs.Fields.{entry_place, below_count}
use Rattle.hd_index_blocks.proofs.BlockLemmas.{below-at, below-through, above-through, edge-at}
use Rattle.hd_index_blocks.proofs.block.IndexBlock.place_of_number.Goals as goal

pub returns-then-ends_below-clause-value : goal.returns-then-ends_below-clause-value
returns-then-ends_below-clause-value c fits up =
    let k : ℕ = c.args.self.now.key_length in
    let b : List ℕ = c.args.self.now.bytes.now in
    let key : List ℕ = c.args.key.now in
    let n : ℕ = c.count-count.result in
    let same : number_at 2 b 4 ≡ n = (let v = c.count-count.ensures.value in omega arith) in
    let ascend : keys_ascend (entries_at k b 12 n) ≡ true = ap (λ (i : ℕ). keys_ascend (entries_at k b 12 i)) (sym same) ∙ up in
    sym (ap (λ (i : ℕ). below_count key (entries_at k b 12 i)) same ∙ edge-at k b key 12 n n ascend (omega arith) (c.ends_below.ensures.below c.if-ends_below.true) (λ l. absurd (omega arith)))

pub returns-then-ends_below-2-clause-value : goal.returns-then-ends_below-2-clause-value
returns-then-ends_below-2-clause-value c fits up =
    let k : ℕ = c.args.self.now.key_length in
    let b : List ℕ = c.args.self.now.bytes.now in
    let key : List ℕ = c.args.key.now in
    let n : ℕ = c.count-count.result in
    let same : number_at 2 b 4 ≡ n = (let v = c.count-count.ensures.value in omega arith) in
    let ascend : keys_ascend (entries_at k b 12 n) ≡ true = ap (λ (i : ℕ). keys_ascend (entries_at k b 12 i)) (sym same) ∙ up in
    sym (ap (λ (i : ℕ). below_count key (entries_at k b 12 i)) same
    ∙ edge-at k b key 12 n (n - 1) ascend (omega arith) (c.ends_below-2.ensures.below c.if-ends_below-2.true) (λ _. c.ends_below.ensures.above c.if-ends_below.false))

pub loop-low-init : goal.loop-low-init
loop-low-init c =
    let k : ℕ = c.args.self.now.key_length in
    let b : List ℕ = c.args.self.now.bytes.now in
    let key : List ℕ = c.args.key.now in
    let n : ℕ = c.count-count.result in
    let some = c.ends_below-2.ensures.some c.if-ends_below-2.false in
    let same : n - 2 ≡ n - 1 - 1 = omega arith in
    let above : key_less (bytes_at b (entry_place k (n - 2)) k) key ≡ false = ap (λ (i : ℕ). key_less (bytes_at b (entry_place k i) k) key) same ∙ c.ends_below-2.ensures.above c.if-ends_below-2.false in
    record {
      order = omega arith;
      most = omega arith;
      below = λ ascend j l. absurd (omega arith);
      above = λ ascend j h l. above-through k b key 12 n (n - 2) j ascend above h l;
    }

pub loop-low-preserved-then-is_below : goal.loop-low-preserved-then-is_below
loop-low-preserved-then-is_below c =
    let inv = c.loop-low.invariant in
    let test = c.loop-low-test.true in
    let k : ℕ = c.args.self.now.key_length in
    let b : List ℕ = c.args.self.now.bytes.now in
    let key : List ℕ = c.args.key.now in
    let m : ℕ = (c.loop-low.low + c.loop-low.high) / 2 in
    let less : key_less (bytes_at b (entry_place k m) k) key ≡ true = sym c.is_below.ensures ∙ c.if-is_below.true in
    record {
      order = omega arith;
      most = inv.most;
      below = λ ascend j l. below-through k b key 12 c.count-count.result m j ascend (omega arith) less l;
      above = inv.above;
    }

pub loop-low-preserved : goal.loop-low-preserved
loop-low-preserved c =
    let inv = c.loop-low.invariant in
    let test = c.loop-low-test.true in
    let k : ℕ = c.args.self.now.key_length in
    let b : List ℕ = c.args.self.now.bytes.now in
    let key : List ℕ = c.args.key.now in
    let m : ℕ = (c.loop-low.low + c.loop-low.high) / 2 in
    let more : key_less (bytes_at b (entry_place k m) k) key ≡ false = sym c.is_below.ensures ∙ c.if-is_below.false in
    record {
      order = omega arith;
      most = omega arith;
      below = inv.below;
      above = λ ascend j h l. above-through k b key 12 c.count-count.result m j ascend more h l;
    }

pub returns-clause-value : goal.returns-clause-value
returns-clause-value c fits up =
    let inv = c.loop-low.invariant in
    let k : ℕ = c.args.self.now.key_length in
    let b : List ℕ = c.args.self.now.bytes.now in
    let same : number_at 2 b 4 ≡ c.count-count.result = (let v = c.count-count.ensures.value in omega arith) in
    let ascend : keys_ascend (entries_at k b 12 c.count-count.result) ≡ true = ap (λ (n : ℕ). keys_ascend (entries_at k b 12 n)) (sym same) ∙ up in
    sym (ap (λ (n : ℕ). below_count c.args.key.now (entries_at k b 12 n)) same
    ∙ below-at k b c.args.key.now 12 c.count-count.result c.loop-low.low (omega arith) (inv.below ascend) (λ l. inv.above ascend c.loop-low.low (omega arith) l))
