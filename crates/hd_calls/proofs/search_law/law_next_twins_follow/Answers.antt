use Rattle.hd_calls.proofs.SearchTwins.{next_twins}
use Rattle.hd_calls.proofs.search_law.law_next_twins_follow.Goals as goal

pub returns : goal.returns
returns c = next_twins
