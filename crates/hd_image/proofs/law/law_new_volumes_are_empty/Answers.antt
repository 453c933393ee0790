use Rattle.hd_image.proofs.Empty.{new-empty}
use Rattle.hd_image.proofs.law.law_new_volumes_are_empty.Goals as goal

pub returns : goal.returns
returns c = new-empty
