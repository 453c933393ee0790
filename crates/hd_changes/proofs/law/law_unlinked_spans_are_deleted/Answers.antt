use Rattle.hd_changes.proofs.Deletions.{spans-deleted, roots-deleted}
use Rattle.hd_changes.proofs.law.law_unlinked_spans_are_deleted.Goals as goal

pub returns-clause-below : goal.returns-clause-below
returns-clause-below c = spans-deleted

pub returns-clause-roots : goal.returns-clause-roots
returns-clause-roots c = roots-deleted
