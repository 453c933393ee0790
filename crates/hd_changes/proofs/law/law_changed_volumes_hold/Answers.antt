use Rattle.hd_changes.proofs.Volumes.{linked-below, linked-new, linked-root, entered-root, unlinked-below, unlinked-root, removed-root}
use Rattle.hd_changes.proofs.law.law_changed_volumes_hold.Goals as goal

pub returns-clause-linked : goal.returns-clause-linked
returns-clause-linked c = linked-below

pub returns-clause-linked_new : goal.returns-clause-linked_new
returns-clause-linked_new c = linked-new

pub returns-clause-linked_root : goal.returns-clause-linked_root
returns-clause-linked_root c = linked-root

pub returns-clause-entered_root : goal.returns-clause-entered_root
returns-clause-entered_root c = entered-root

pub returns-clause-unlinked : goal.returns-clause-unlinked
returns-clause-unlinked c = unlinked-below

pub returns-clause-unlinked_root : goal.returns-clause-unlinked_root
returns-clause-unlinked_root c = unlinked-root

pub returns-clause-removed_root : goal.returns-clause-removed_root
returns-clause-removed_root c = removed-root
