use Rattle.hd_calls.proofs.SearchLevels.{paths_by_level}
use Rattle.hd_calls.proofs.search_law.law_paths_are_by_level.Goals as goal

pub returns : goal.returns
returns c = paths_by_level
