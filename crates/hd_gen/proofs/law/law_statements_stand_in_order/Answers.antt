use Rattle.hd_gen.proofs.Orders.{statements-stand-in-order}
use Rattle.hd_gen.proofs.law.law_statements_stand_in_order.Goals as goal

pub returns : goal.returns
returns c = statements-stand-in-order
