use Rattle.hd_calls.proofs.SearchStarts.{only_topmost}
use Rattle.hd_calls.proofs.search_law.law_only_the_topmost_lowers.Goals as goal

pub returns : goal.returns
returns c = only_topmost
