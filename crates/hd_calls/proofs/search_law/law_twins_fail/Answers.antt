use Rattle.hd_calls.proofs.SearchTwins.{twins_fail}
use Rattle.hd_calls.proofs.search_law.law_twins_fail.Goals as goal

pub returns : goal.returns
returns c = twins_fail
