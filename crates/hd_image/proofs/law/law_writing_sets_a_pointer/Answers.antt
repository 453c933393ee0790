use Rattle.hd_image.proofs.Writes.{writing-sets}
use Rattle.hd_image.proofs.law.law_writing_sets_a_pointer.Goals as goal

pub returns : goal.returns
returns c = writing-sets
