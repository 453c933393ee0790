use Rattle.hd_position.proofs.Adding.{insertions_add}
use Rattle.hd_position.proofs.law.law_insertions_add_up.Goals as goal

pub returns : goal.returns
returns c = insertions_add
