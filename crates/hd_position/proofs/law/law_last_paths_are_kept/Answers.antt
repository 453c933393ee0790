use Rattle.hd_position.proofs.LastPlaces.{last_paths}
use Rattle.hd_position.proofs.law.law_last_paths_are_kept.Goals as goal

pub returns : goal.returns
returns c = last_paths
