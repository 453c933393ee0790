use Rattle.hd_position.proofs.Rewriting.{rewriting_ends}
use Rattle.hd_position.proofs.law.law_rewriting_ends_holds.Goals as goal

pub returns : goal.returns
returns c = rewriting_ends
