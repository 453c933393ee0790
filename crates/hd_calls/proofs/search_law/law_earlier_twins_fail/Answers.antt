use Rattle.hd_calls.proofs.SearchTwins.{earlier_twins_fail}
use Rattle.hd_calls.proofs.search_law.law_earlier_twins_fail.Goals as goal

pub returns : goal.returns
returns c = earlier_twins_fail
