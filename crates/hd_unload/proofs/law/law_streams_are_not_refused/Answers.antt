use Rattle.hd_unload.proofs.Accepting.{none-refused}
use Rattle.hd_unload.proofs.law.law_streams_are_not_refused.Goals as goal

pub returns : goal.returns
returns c = none-refused
