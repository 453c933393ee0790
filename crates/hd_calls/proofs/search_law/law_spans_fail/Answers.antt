use Rattle.hd_calls.proofs.Failing.{spans_fail}
use Rattle.hd_calls.proofs.search_law.law_spans_fail.Goals as goal

pub returns : goal.returns
returns c = spans_fail
