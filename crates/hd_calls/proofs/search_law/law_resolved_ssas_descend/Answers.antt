use Rattle.hd_calls.proofs.Admitting.{resolved_descend}
use Rattle.hd_calls.proofs.search_law.law_resolved_ssas_descend.Goals as goal

pub returns : goal.returns
returns c = resolved_descend
