use Rattle.hd_position.proofs.Before.{path_levels}
use Rattle.hd_position.proofs.law.law_paths_are_levels.Goals as goal

pub returns : goal.returns
returns c = path_levels
