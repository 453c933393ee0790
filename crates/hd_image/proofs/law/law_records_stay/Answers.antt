use Rattle.hd_image.proofs.SameRecords.{records-stay}
use Rattle.hd_image.proofs.law.law_records_stay.Goals as goal

pub returns : goal.returns
returns c = records-stay
