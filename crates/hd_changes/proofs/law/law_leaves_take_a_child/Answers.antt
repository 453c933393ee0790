use Rattle.hd_changes.proofs.Leaves.{leaves-take, children-next}
use Rattle.hd_changes.proofs.law.law_leaves_take_a_child.Goals as goal

pub returns-clause-takes : goal.returns-clause-takes
returns-clause-takes c = leaves-take

pub returns-clause-next : goal.returns-clause-next
returns-clause-next c = children-next
