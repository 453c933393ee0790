use Rattle.hd_calls.proofs.SearchStarts.{parents_first}
use Rattle.hd_calls.proofs.search_law.law_parents_come_first.Goals as goal

pub returns : goal.returns
returns c = parents_first
