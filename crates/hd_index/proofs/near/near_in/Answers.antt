use Rattle.std.proofs.Common.{◌≡◌, ℕ, ◌∙◌, sym, arith}
use Rattle.hd_bytes.specs.Numbers.{number_at}
use Rattle.hd_index.proofs.near.near_in.Goals as goal

pub returns-then-index-count-clause-near : goal.returns-then-index-count-clause-near
returns-then-index-count-clause-near c fits ascend =
    let b = c.args.block.now.bytes.now in
    let v = c.count-count.ensures.value in
    record {
      level = omega arith;
      index_is = c.place_of-index.ensures.value fits ascend;
      count_is = omega arith;
      behind = omega arith;
      last = λ e. omega (arith, e);
    }

pub returns-clause-near : goal.returns-clause-near
returns-clause-near c fits ascend =
    let b = c.args.block.now.bytes.now in
    let v = c.count-count.ensures.value in
    record {
      level = omega arith;
      index_is = c.place_of-index.ensures.value fits ascend;
      count_is = omega arith;
      behind = omega arith;
      last = λ e. (let t = c.next.ensures in omega arith);
    }
