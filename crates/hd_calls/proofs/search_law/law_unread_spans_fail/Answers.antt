use Rattle.hd_calls.proofs.Failing.{unread_spans_fail}
use Rattle.hd_calls.proofs.search_law.law_unread_spans_fail.Goals as goal

pub returns : goal.returns
returns c = unread_spans_fail
