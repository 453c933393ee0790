use Rattle.hd_image.proofs.RowCounts.{few-rows}
use Rattle.hd_image.proofs.law.law_rows_of_a_volume_are_few.Goals as goal

pub returns : goal.returns
returns c = few-rows
