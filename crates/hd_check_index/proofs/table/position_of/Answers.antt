use Rattle.std.proofs.Common.{◌≡◌, ◌<◌, ◌+◌, ◌-◌, ◌/◌, ℕ, List, inl, inr, arith, sym, ap, subst}
use Rattle.std.proofs.lemmas.Bool.{cases_lt, cases_eq}
use Rattle.hd_check_index.specs.declared.table.NotedBlock.{NotedBlock}
use Rattle.hd_check_index.specs.NotedBlocks.{noted_at}
use Rattle.hd_check_index.proofs.NotedTables.{index-of, in-order}
use Rattle.hd_check_index.proofs.table.position_of.Goals as goal

pub loop-low-preserved-then-block-number-2 : goal.loop-low-preserved-then-block-number-2
loop-low-preserved-then-block-number-2 c =
    let bs : List NotedBlock = c.args.blocks.now in
    let middle : ℕ = c.loop-low.low + (c.loop-low.high - c.loop-low.low) / 2 in
    let i = c.loop-low.invariant in
    let most = i.most in
    let test = c.loop-low-test.true in
    let less : (noted_at bs middle).number < c.args.number = c.if-block-number-2.true in
    record {
      order = omega arith;
      most = i.most;
      below = λ up j low. elim (cases_eq j middle) [
        | inl e ↦ subst (λ (x : ℕ). (noted_at bs x).number < c.args.number) (sym e) less
        | inr ne ↦ (let before = in-order 0 bs j middle up (omega arith) (omega arith) in omega arith)
      ];
      above = i.above;
    }

pub loop-low-preserved : goal.loop-low-preserved
loop-low-preserved c =
    let bs : List NotedBlock = c.args.blocks.now in
    let middle : ℕ = c.loop-low.low + (c.loop-low.high - c.loop-low.low) / 2 in
    let i = c.loop-low.invariant in
    let most = i.most in
    let test = c.loop-low-test.true in
    let more : c.args.number < (noted_at bs middle).number = (let ne = c.if-block-number.false in let low = c.if-block-number-2.false in omega arith) in
    record {
      order = omega arith;
      most = omega arith;
      below = i.below;
      above = λ up j high within. elim (cases_eq j middle) [
        | inl e ↦ subst (λ (x : ℕ). c.args.number < (noted_at bs x).number) (sym e) more
        | inr ne ↦ (let before = in-order 0 bs middle j up (omega arith) within in omega arith)
      ];
    }

pub returns-clause-none : goal.returns-clause-none
returns-clause-none c = λ up b is same.
    let bs : List NotedBlock = c.args.blocks.now in
    let i = c.loop-low.invariant in
    let end = c.loop-low-test.false in
    let n = index-of b bs is in
    let at : (noted_at bs n.0).number ≡ b.number = ap (λ (x : NotedBlock). x.number) n.2 in
    elim (cases_lt n.0 c.loop-low.low) [
      | inl low ↦ (let l = i.below up n.0 low in absurd (omega arith))
      | inr high ↦ (let within = n.1 in let a = i.above up n.0 (omega arith) within in absurd (omega arith))
    ]
