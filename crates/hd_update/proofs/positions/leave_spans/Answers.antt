use Rattle.std.proofs.Common.{ap, sym, ◌∙◌}
use Rattle.hd_position.specs.Kept.{without_row}
use Rattle.hd_update.proofs.Lists.{map_one_more}
use Rattle.hd_update.proofs.positions.leave_spans.Goals as goal

pub loop-place-preserved : goal.loop-place-preserved
loop-place-preserved c =
    map_one_more (without_row c.tip_of-address.result c.level-level.result c.args.before.now) c.loop-place.place c.loop-place.positions c.args.positions.now c.index-positions-place.result c.leave_span.new.self
    c.loop-place-test.true c.loop-place.invariant c.index-positions-place.is
    (c.leave_span.ensures ∙ ap (without_row c.tip_of-address.result c.level-level.result c.args.before.now) (sym c.index-positions-place.is))
