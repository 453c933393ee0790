use Rattle.hd_changes.proofs.RootEntries.{linking-enters, unlinking-removes}
use Rattle.hd_changes.proofs.law.law_roots_change_entries.Goals as goal

pub returns-clause-linking : goal.returns-clause-linking
returns-clause-linking c = linking-enters

pub returns-clause-unlinking : goal.returns-clause-unlinking
returns-clause-unlinking c = unlinking-removes
