use Rattle.hd_calls.proofs.PathSpans.{spans_below}
use Rattle.hd_calls.proofs.law.law_spans_are_the_rows_below.Goals as goal

pub returns : goal.returns
returns c = spans_below
