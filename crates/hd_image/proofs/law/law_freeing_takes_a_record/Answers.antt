use Rattle.hd_image.proofs.Puts.{freeing-takes}
use Rattle.hd_image.proofs.law.law_freeing_takes_a_record.Goals as goal

pub returns : goal.returns
returns c = freeing-takes
