use Rattle.hd_image.proofs.Puts.{rewriting-replaces}
use Rattle.hd_image.proofs.law.law_rewriting_replaces_a_record.Goals as goal

pub returns : goal.returns
returns c = rewriting-replaces
