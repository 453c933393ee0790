use Rattle.std.proofs.Common.{ap, sym, ◌∙◌}
use Rattle.hd_update.specs.Positions.{after_rewrites}
use Rattle.hd_update.proofs.Lists.{map_one_more}
use Rattle.hd_update.proofs.positions.follow_all.Goals as goal

pub loop-place-preserved : goal.loop-place-preserved
loop-place-preserved c =
    map_one_more (after_rewrites c.args.rows.now) c.loop-place.place c.loop-place.positions c.args.positions.now c.index-positions-place.result c.follow_rows.new.position
    c.loop-place-test.true c.loop-place.invariant c.index-positions-place.is
    (c.follow_rows.ensures ∙ ap (after_rewrites c.args.rows.now) (sym c.index-positions-place.is))
