use Rattle.std.proofs.Common.{ap, ◌∙◌}
use Rattle.std.specs.Option.{unwrap_or}
use Rattle.hd_forest.proofs.Setting.{parent-of-child}
use Rattle.hd_forest.proofs.write.parent_code.Goals as goal

pub returns : goal.returns
returns c = λ parent child.
    let d = c.args.dbd.now in
    c.unwrap_or.ensures ∙ ap (λ o. unwrap_or o 0) c.parent_of.ensures ∙ parent-of-child d.block_size d.frspc d.types parent c.args.code c.types.ensures.fit child
