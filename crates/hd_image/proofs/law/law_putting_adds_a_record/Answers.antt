use Rattle.hd_image.proofs.Puts.{putting-adds}
use Rattle.hd_image.proofs.law.law_putting_adds_a_record.Goals as goal

pub returns : goal.returns
returns c = putting-adds
