use Rattle.hd_changes.proofs.SetRows.{set-row-held, set-root-held}
use Rattle.hd_changes.proofs.law.law_set_rows_are_held.Goals as goal

pub returns-clause-row : goal.returns-clause-row
returns-clause-row c = set-row-held

pub returns-clause-root : goal.returns-clause-root
returns-clause-root c = set-root-held
