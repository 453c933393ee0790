use Rattle.hd_forest.proofs.BackTwins.{back-on}
use Rattle.hd_forest.proofs.back_twins.back_in.Goals as goal

pub returns : goal.returns
returns c =
    back-on c.args.places c.args.backward c.args.block.now c.args.start c.args.key.now c.args.address c.back_by_number-part.result c.back_by_key.result c.back_by_number-part.ensures c.back_by_key.ensures
