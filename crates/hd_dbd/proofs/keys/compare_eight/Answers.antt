use Rattle.std.proofs.Common.{ap₂, ◌∙◌, arith, rules}
use Rattle.std.specs.Ordering.{nat_cmp}
use Rattle.hd_dbd.proofs.KeyOrder.{eight-order}
use Rattle.hd_dbd.proofs.keys.compare_eight.Goals as goal

pub returns : goal.returns
returns c =
    c.cmp.ensures ∙ ap₂ nat_cmp c.number_of_eight.ensures c.number_of_eight-2.ensures
    ∙ eight-order c.args.one.now c.args.other.now (omega arith) (omega arith) (search rules) (search rules)
