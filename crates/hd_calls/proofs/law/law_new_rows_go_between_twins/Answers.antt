use Rattle.hd_calls.proofs.InsertionPoint.{between_twins}
use Rattle.hd_calls.proofs.law.law_new_rows_go_between_twins.Goals as goal

pub returns : goal.returns
returns c = between_twins
