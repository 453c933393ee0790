use Rattle.std.proofs.Common.{ℕ, List, length, ap, ◌∙◌}
use Rattle.hd_changes.proofs.RootTypes.{root-key-long}
use Rattle.hd_unload.proofs.row.root_key.Goals as goal

pub returns-clause-whole : goal.returns-clause-whole
returns-clause-whole c =
    ap (λ (key : List ℕ). length key) c.key_of.ensures.value ∙ root-key-long c.args.dbd.now.block_size c.args.dbd.now.frspc c.args.dbd.now.types c.args.bytes.now c.key_of.ensures.fit c.requires
