use Rattle.hd_changes.proofs.Volumes.{below-keep, replacing-keeps}
use Rattle.hd_changes.proofs.law.law_changes_keep_entries.Goals as goal

pub returns-clause-below : goal.returns-clause-below
returns-clause-below c = below-keep

pub returns-clause-replacing : goal.returns-clause-replacing
returns-clause-replacing c = replacing-keeps
