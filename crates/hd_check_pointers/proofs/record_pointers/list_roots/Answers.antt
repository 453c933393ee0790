use Rattle.std.proofs.Common.{◌++◌, ap, ◌∙◌}
use Rattle.hd_volume.proofs.CallSteps.{if-ok}
use Rattle.hd_check_pointers.specs.declared.record_pointers.Wrong.{Wrong}
use Rattle.hd_check_pointers.specs.Listed.{pointer_faults}
use Rattle.hd_check_pointers.proofs.record_pointers.list_roots.Goals as goal

pub returns-clause-faults : goal.returns-clause-faults
returns-clause-faults c = if-ok c.list_pointers.result c.list_pointers.ensures.faults
    (λ x is d v places first last. is ∙ ap (λ (w : Wrong). c.args.faults.now.items ++ pointer_faults 0 w) (c.judge_roots.ensures d v places first last))
