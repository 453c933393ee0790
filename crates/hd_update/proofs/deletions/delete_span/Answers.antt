use Rattle.std.proofs.Common.{◌≢◌, ◌∙◌}
use Rattle.hd_forest.specs.Walks.{parent_on}
use Rattle.hd_update.proofs.Unlinked.{on_ok, may_unlink, taken_below}
use Rattle.hd_update.proofs.deletions.delete_span.Goals as goal

pub unlink_span-requires-clause-holds : goal.unlink_span-requires-clause-holds
unlink_span-requires-clause-holds g c sound = (let T = c.requires.there sound in (T.0, T.2.holds.records))

pub unlink_span-requires-clause-there : goal.unlink_span-requires-clause-there
unlink_span-requires-clause-there g c sound = (let T = c.requires.there sound in may_unlink c.args.dbd.now c.args.volume.now T.0 c.args.path.now T.1 T.2)

pub returns-clause-taken_out : goal.returns-clause-taken_out
returns-clause-taken_out g c = on_ok c.unlink_span.result c.unlink_span.ensures.unlinked (λ unlinked f i at.
    let some : parent_on c.args.path.now ≢ 0 = λ z. c.if-parent_on-eq0.false (c.parent_on.ensures ∙ z) in
    taken_below c.args.dbd.now c.args.volume.now f c.args.path.now i at c.unlink_span.new.volume some (unlinked at.sound))
