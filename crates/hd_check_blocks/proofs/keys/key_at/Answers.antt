use Rattle.std.proofs.Common.{sym, ◌∙◌}
use Rattle.hd_check_blocks.proofs.KeyPlaces.{placed-key}
use Rattle.hd_check_blocks.proofs.keys.key_at.Goals as goal

pub returns : goal.returns
returns c = λ whole.
    let d = c.args.dbd.now in
    c.bytes_in.ensures ∙ placed-key d.block_size d.frspc d.types c.types-types.ensures.fit c.args.code c.args.segment.now c.in-Some.place (sym c.in-Some.is ∙ c.requires)
