use Rattle.std.proofs.Common.{sym, ◌∙◌}
use Rattle.hd_check_walk.proofs.beside.is_plain.Goals as goal

pub returns : goal.returns
returns c = λ v of seen yes. record {
  is = seen;
  childless = seen.childless c.if-not-seen.false;
  backward = λ kept. sym seen.backward ∙ c.is_backward_right.ensures c.if-not-is_backward_right.false kept;
  key = λ are. c.is_told.ensures v of are yes;
}
