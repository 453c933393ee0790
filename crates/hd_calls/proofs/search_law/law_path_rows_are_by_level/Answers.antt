use Rattle.hd_calls.proofs.SearchLevels.{path_rows_by_level}
use Rattle.hd_calls.proofs.search_law.law_path_rows_are_by_level.Goals as goal

pub returns : goal.returns
returns c = path_rows_by_level
