use Rattle.hd_calls.proofs.Beside.{no_later_types}
use Rattle.hd_calls.proofs.search_law.law_no_later_types_fail.Goals as goal

pub returns : goal.returns
returns c = no_later_types
