use Rattle.hd_calls.proofs.SearchWays.{ways_down}
use Rattle.hd_calls.proofs.search_law.law_ways_down_are_unique.Goals as goal

pub returns : goal.returns
returns c = ways_down
