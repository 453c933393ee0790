use Rattle.hd_calls.proofs.SearchTwins.{earlier_roots_fail}
use Rattle.hd_calls.proofs.search_law.law_earlier_roots_fail.Goals as goal

pub returns : goal.returns
returns c = earlier_roots_fail
