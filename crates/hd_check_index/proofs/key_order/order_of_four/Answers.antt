use Rattle.std.proofs.Common.{ap₂, ◌∙◌, arith, rules}
use Rattle.std.specs.Ordering.{nat_cmp}
use Rattle.hd_dbd.proofs.KeyOrder.{four-order}
use Rattle.hd_check_index.proofs.key_order.order_of_four.Goals as goal

pub returns : goal.returns
returns c =
    c.cmp.ensures ∙ ap₂ nat_cmp c.number_of.ensures c.number_of-2.ensures
    ∙ four-order c.args.one.now c.args.other.now (omega arith) (omega arith) (search rules) (search rules)
