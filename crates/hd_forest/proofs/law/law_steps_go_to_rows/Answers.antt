use Rattle.hd_forest.proofs.RowSteps.{row-steps}
use Rattle.hd_forest.proofs.law.law_steps_go_to_rows.Goals as goal

pub returns : goal.returns
returns c = row-steps
