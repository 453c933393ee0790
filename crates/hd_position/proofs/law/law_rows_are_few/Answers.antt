use Rattle.hd_position.proofs.Before.{few_rows}
use Rattle.hd_position.proofs.law.law_rows_are_few.Goals as goal

pub returns : goal.returns
returns c = few_rows
