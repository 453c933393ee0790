use Rattle.hd_dbd.proofs.RowPaths.{path_follows}
use Rattle.hd_dbd.proofs.law.law_paths_follow_parents.Goals as goal

pub returns : goal.returns
returns c types rows i = path_follows types rows i
