use Rattle.hd_position.proofs.RootRows.{roots_are}
use Rattle.hd_position.proofs.law.law_roots_are_of_level_one.Goals as goal

pub returns : goal.returns
returns c = roots_are
