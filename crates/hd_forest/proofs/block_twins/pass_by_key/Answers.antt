use Rattle.std.proofs.Common.{sym, ◌∙◌}
use Rattle.hd_forest.proofs.Passing.{come-more}
use Rattle.hd_forest.proofs.block_twins.pass_by_key.Goals as goal

pub loop-count-preserved : goal.loop-count-preserved
loop-count-preserved c =
    let H = come-more c.args.places c.args.block.now c.args.start c.args.key.now c.loop-count.count c.args.behind c.args.address c.loop-count.before c.loop-count.twin c.read_u32-twin.result
    (record { below = c.loop-count.invariant.below; twin = c.loop-count.invariant.twin; before = c.loop-count.invariant.before }) (c.has_twin.ensures.0 c.if-not-has_twin.false)
    (sym c.is_below.ensures ∙ c.if-not-is_below.false) c.read_u32-twin.ensures in
    record { below = H.below; twin = H.twin; before = H.before }
