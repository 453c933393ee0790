use Rattle.hd_check_pointers.proofs.TwinFaults.{header-has, header-right, header-wrong}
use Rattle.hd_check_pointers.proofs.twins.last_root_fault.Goals as goal

pub returns-then-is_last_right-clause-none : goal.returns-then-is_last_right-clause-none
returns-then-is_last_right-clause-none c = λ d v M F O first last.
    header-right d v (c.is_last_right.ensures.right d v 1 M F O (header-has d v c.args.first c.args.last first last) c.if-is_last_right.true)

pub returns-clause-some : goal.returns-clause-some
returns-clause-some c = λ d v M F O first last.
    header-wrong d v c.args.last c.at.result c.at.ensures last (c.is_last_right.ensures.wrong d v 1 M F O (header-has d v c.args.first c.args.last first last) c.if-is_last_right.false)
