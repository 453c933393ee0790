use Rattle.hd_position.proofs.Before.{row_before}
use Rattle.hd_position.proofs.law.law_the_row_before_is_one.Goals as goal

pub returns : goal.returns
returns c = row_before
