use Rattle.hd_calls.proofs.Failing.{other_types_fail}
use Rattle.hd_calls.proofs.search_law.law_other_types_fail.Goals as goal

pub returns : goal.returns
returns c = other_types_fail
