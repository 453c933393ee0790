use Rattle.hd_calls.proofs.Admitting.{named_admitted}
use Rattle.hd_calls.proofs.search_law.law_named_rows_are_admitted.Goals as goal

pub returns : goal.returns
returns c = named_admitted
