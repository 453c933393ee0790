use Rattle.std.proofs.Common.{◌∙◌, sym, arith}
use Rattle.hd_dbd.proofs.KeyOrder.{ends-order}
use Rattle.hd_dbd.proofs.keys.compare_few.Goals as goal

pub returns : goal.returns
returns c =
    c.compare_four.ensures
    ∙ ends-order 4 c.args.one.now c.args.other.now c.compare_four-order.result c.requires.same (omega arith) (omega arith) c.compare_four-order.ensures (sym c.is_ne.ensures ∙ c.if-is_ne.false)
