use Rattle.hd_position.proofs.OnPaths.{on_paths}
use Rattle.hd_position.proofs.law.law_spans_are_on_paths.Goals as goal

pub returns : goal.returns
returns c = on_paths
