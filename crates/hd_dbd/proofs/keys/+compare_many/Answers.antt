use Rattle.std.proofs.Common.{◌∙◌, sym, arith}
use Rattle.hd_dbd.proofs.KeyOrder.{ends-order}
use Rattle.hd_dbd.proofs.keys.+compare_many.Goals as goal

pub returns : goal.returns
returns t c =
    c.compare_eight.ensures
    ∙ ends-order 8 c.args.one.now c.args.other.now c.compare_eight-order.result c.requires.same (omega arith) (omega arith) c.compare_eight-order.ensures (sym c.is_ne.ensures ∙ c.if-is_ne.false)
