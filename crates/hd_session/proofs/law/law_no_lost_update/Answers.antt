use Rattle.hd_calls.proofs.Traced.{no_lost_update}
use Rattle.hd_session.proofs.law.law_no_lost_update.Goals as goal

pub returns : goal.returns
returns c d pcbs image rows log before after n legal is update = no_lost_update d.types pcbs rows log.entries before after n legal.runs is update
