use Rattle.hd_calls.proofs.SearchLevels.{types_by_level}
use Rattle.hd_calls.proofs.search_law.law_types_are_by_level.Goals as goal

pub returns : goal.returns
returns c = types_by_level
