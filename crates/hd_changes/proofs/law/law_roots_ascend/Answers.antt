use Rattle.hd_changes.proofs.RootRows.{roots-rise}
use Rattle.hd_changes.proofs.law.law_roots_ascend.Goals as goal

pub returns : goal.returns
returns c = roots-rise
