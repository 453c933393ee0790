use Rattle.std.proofs.Common.{ap₂, ◌∙◌}
use Rattle.std.specs.Prelude.{◌==◌}
use Rattle.hd_dbd.proofs.EightBytes.{equal_numbers}
use Rattle.hd_dbd.proofs.naming.are_bytes.Goals as goal

pub returns : goal.returns
returns c =
    ap₂ (λ m n. m == n) c.from_be_bytes.ensures c.from_be_bytes-2.ensures
    ∙ equal_numbers c.args.left.now c.args.right.now c.told-left c.told-right c.fits-left c.fits-right
