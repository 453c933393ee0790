use Rattle.hd_changes.proofs.Volumes.{held-entered, forest-changes, index-changes}
use Rattle.hd_changes.proofs.law.law_changes_are_apart.Goals as goal

pub returns-clause-held : goal.returns-clause-held
returns-clause-held c = held-entered

pub returns-clause-forest : goal.returns-clause-forest
returns-clause-forest c = forest-changes

pub returns-clause-index : goal.returns-clause-index
returns-clause-index c = index-changes
