use Rattle.std.proofs.Common.{◌≡◌, List, Bool, sym, subst}
use Rattle.hd_check_index.specs.Standings.{AreMarks, numbers_of}
use Rattle.hd_check_index.proofs.Reached.{unreached-found}
use Rattle.hd_check_index.proofs.reach.unreached.Goals as goal

pub returns-clause-found : goal.returns-clause-found
returns-clause-found c = λ k v table right is.
    let view : c.deref.result.now ≡ c.mark_standing.new.marks.items = c.deref.ensures.value in
    let marks = subst (λ (ms : List Bool). AreMarks c.args.blocks.now (numbers_of c.args.rows.now) ms) (sym view) (c.mark_standing.ensures.marks table.ascend) in
    unreached-found k v c.args.blocks.now table c.args.rows.now is c.deref.result.now marks c.unmarked.result c.unmarked.ensures.none c.unmarked.ensures.some
