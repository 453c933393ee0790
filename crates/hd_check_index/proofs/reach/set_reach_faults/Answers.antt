use Rattle.std.proofs.Common.{◌≡◌, List, Bool, sym, subst}
use Rattle.hd_check_index.specs.Standings.{AreMarks, numbers_of}
use Rattle.hd_check_index.proofs.reach.set_reach_faults.Goals as goal

pub returns-clause-faults : goal.returns-clause-faults
returns-clause-faults c = λ d v of later table are size.
    let view : c.deref.result.now ≡ c.mark_standing.new.marks.items = c.deref.ensures.value in
    let marks = subst (λ (ms : List Bool). AreMarks c.args.blocks.now (numbers_of c.args.rows.now) ms) (sym view) (c.mark_standing.ensures.marks table.ascend) in
    c.unmarked_faults.ensures.faults d v of later table size c.args.rows.now are marks
