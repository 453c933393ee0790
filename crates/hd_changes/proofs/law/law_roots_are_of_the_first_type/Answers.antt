use Rattle.hd_changes.proofs.RootTypes.{root-key-long}
use Rattle.hd_changes.proofs.RootRows.{roots-first, roots-alone}
use Rattle.hd_changes.proofs.law.law_roots_are_of_the_first_type.Goals as goal

pub returns-clause-level : goal.returns-clause-level
returns-clause-level c = roots-first

pub returns-clause-path : goal.returns-clause-path
returns-clause-path c = roots-alone

pub returns-clause-whole : goal.returns-clause-whole
returns-clause-whole c = root-key-long
