use Rattle.hd_calls.proofs.Beside.{later_types}
use Rattle.hd_calls.proofs.search_law.law_later_types_follow.Goals as goal

pub returns : goal.returns
returns c = later_types
