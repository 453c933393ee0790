use Rattle.hd_changes.proofs.NewPaths.{begin-below, begin-roots, go-on, insertions}
use Rattle.hd_changes.proofs.law.law_paths_go_in_together.Goals as goal

pub returns-clause-below : goal.returns-clause-below
returns-clause-below c = begin-below

pub returns-clause-roots : goal.returns-clause-roots
returns-clause-roots c = begin-roots

pub returns-clause-more : goal.returns-clause-more
returns-clause-more c = go-on

pub returns-clause-insertion : goal.returns-clause-insertion
returns-clause-insertion c = insertions
