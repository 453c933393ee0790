use Rattle.std.proofs.Common.{sym, ◌∙◌}
use Rattle.std.proofs.lemmas.Bool.{not-true}
use Rattle.hd_check_walk.proofs.Fronts.{fronts-told, unkeyed-told}
use Rattle.hd_check_walk.proofs.twins.is_told.Goals as goal

pub returns-then-is_less : goal.returns-then-is_less
returns-then-is_less c = λ v of twins yes.
    fronts-told c.args.dbd.now v c.args.code c.args.before.now c.args.twin.now of twins (c.is_less.ensures c.if-is_less.true)

pub returns-else-is_less : goal.returns-else-is_less
returns-else-is_less c = λ v of twins yes.
    unkeyed-told c.args.dbd.now v c.args.code c.args.before.now c.args.twin.now of twins (sym c.is_keyed.ensures ∙ not-true c.is_keyed.result yes)
