use Rattle.hd_calls.proofs.SearchStarts.{first_children_by_path}
use Rattle.hd_calls.proofs.search_law.law_first_children_are_by_path.Goals as goal

pub returns : goal.returns
returns c = first_children_by_path
