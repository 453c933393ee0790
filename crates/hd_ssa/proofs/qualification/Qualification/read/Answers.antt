use Rattle.std.proofs.Common.{sym, ◌∙◌}
use Rattle.hd_ssa.proofs.Singles.{first_fault, single_open}
use Rattle.hd_ssa.proofs.qualification.Qualification.read.Goals as goal

pub returns-in-Err : goal.returns-in-Err
returns-in-Err c = sym (first_fault c.args.segment.now c.args.text.now c.in-Err.status (sym c.read.ensures ∙ c.in-Err.is))

pub invariant_of-result-2 : goal.invariant_of-result-2
invariant_of-result-2 c =
    let whole = c.in_ok-check_comparisons.ensures.ok in (
      whole,
      single_open c.args.segment.now c.args.text.now c.in-Ok.read whole (sym c.read.ensures ∙ c.in-Ok.is) (sym c.closes.ensures ∙ c.if-closes.false),
    )
