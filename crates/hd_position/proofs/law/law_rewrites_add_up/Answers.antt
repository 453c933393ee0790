use Rattle.hd_position.proofs.Rewriting.{rewrites_add}
use Rattle.hd_position.proofs.law.law_rewrites_add_up.Goals as goal

pub returns : goal.returns
returns c = rewrites_add
