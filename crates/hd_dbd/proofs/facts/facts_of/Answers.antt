use Rattle.std.proofs.Common.{◌+◌, ◌-◌, List, ◌++◌, length, ap, ◌∙◌}
use Rattle.hd_dbd.specs.declared.facts.TypeFacts.{TypeFacts}
use Rattle.hd_dbd.specs.Facts.{table_from, facts_at}
use Rattle.hd_dbd.proofs.Tables.{table_more}
use Rattle.hd_dbd.proofs.facts.facts_of.Goals as goal

pub loop-place-preserved : goal.loop-place-preserved
loop-place-preserved c =
    ap (λ (xs : List TypeFacts). xs ++ table_from (facts_at c.args.types.now) (c.loop-place.place + 1 + 1) (length c.args.types.now - (c.loop-place.place + 1))) c.in_ok-push.ensures.items
    ∙ table_more (facts_at c.args.types.now) c.loop-place.table.items c.facts_at.result c.loop-place.place (length c.args.types.now) c.loop-place-test.true c.facts_at.ensures
    ∙ c.loop-place.invariant
