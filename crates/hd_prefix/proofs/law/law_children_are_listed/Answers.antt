use Rattle.hd_prefix.proofs.Listed.{children_listed}
use Rattle.hd_prefix.proofs.law.law_children_are_listed.Goals as goal

pub returns : goal.returns
returns c = children_listed
