use Rattle.std.proofs.Common.{◌∙◌, sym, arith}
use Rattle.hd_dbd.proofs.KeyOrder.{ends-order}
use Rattle.hd_check_index.proofs.key_order.order_of.Goals as goal

pub returns : goal.returns
returns c =
    c.order_of_four.ensures
    ∙ ends-order 4 c.args.one.now c.args.other.now c.order_of_four-order.result (omega arith) (omega arith) (omega arith) c.order_of_four-order.ensures (sym c.is_ne.ensures ∙ c.if-is_ne.false)
