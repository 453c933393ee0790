-- The parent takes the type's place, with one level less above it.
use Rattle.std.proofs.Common.{◌∙◌, arith, sym}
use Rattle.hd_dbd.proofs.Under.{under-parent}
use Rattle.hd_dbd.proofs.database.Dbd.is_under.Goals as goal

pub loop-levels-preserved : goal.loop-levels-preserved
loop-levels-preserved c =
    sym (under-parent c.args.self.now.types c.loop-levels.levels c.loop-levels.below c.in-Some.parent c.args.above (omega arith) (sym c.parent_of.ensures ∙ c.in-Some.is) c.if-parent-above.false)
    ∙ c.loop-levels.invariant
