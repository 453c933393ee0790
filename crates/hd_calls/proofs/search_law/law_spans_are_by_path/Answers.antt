use Rattle.hd_calls.proofs.Failing.{spans_by_path}
use Rattle.hd_calls.proofs.search_law.law_spans_are_by_path.Goals as goal

pub returns : goal.returns
returns c = spans_by_path
