use Rattle.hd_calls.proofs.SearchWays.{first_children}
use Rattle.hd_calls.proofs.search_law.law_first_children_follow.Goals as goal

pub returns : goal.returns
returns c = first_children
