use Rattle.std.proofs.Common.{None, ap, ◌∙◌}
use Rattle.hd_volume.proofs.CallSteps.{if-ok}
use Rattle.hd_check_index.specs.Listed.{each_once}
use Rattle.hd_check_index.proofs.InOrder.{put-in-order}
use Rattle.hd_check_index.proofs.listed.in_order.Goals as goal

pub returns-clause-faults : goal.returns-clause-faults
returns-clause-faults c = λ d v h.
    if-ok c.each_once.result c.each_once.ensures.value
    (λ l is. put-in-order d v c.args.found.items c.sort_faults.new.faults.items l.items c.in_ok-sort_faults.ensures.moved c.in_ok-sort_faults.ensures.sorted (is ∙ ap (each_once None) c.deref.ensures.value) h)
