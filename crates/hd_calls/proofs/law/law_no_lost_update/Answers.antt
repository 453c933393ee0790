use Rattle.hd_calls.proofs.Traced.{no_lost_update}
use Rattle.hd_calls.proofs.law.law_no_lost_update.Goals as goal

pub returns : goal.returns
returns g c = no_lost_update
