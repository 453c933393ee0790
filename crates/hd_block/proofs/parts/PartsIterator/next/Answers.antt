use Rattle.std.proofs.Common.{◌∙◌, sym, arith}
use Rattle.hd_block.proofs.PartLemmas.{from-end}
use Rattle.hd_block.proofs.parts.PartsIterator.next.Goals as goal

pub returns-in-None-clause-steps : goal.returns-in-None-clause-steps
returns-in-None-clause-steps c =
    (sym c.self.view_is ∙ c.in-None.ensures, from-end c.self.inside.sizes.now c.self.inside.bytes.now _ c.self.inside.next (omega arith))
