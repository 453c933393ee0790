use Rattle.std.proofs.Common.{◌∙◌}
use Rattle.hd_block.specs.Lent.{bytes_of, sizes_of}
use Rattle.hd_block.proofs.PartLemmas.{parts-divided}
use Rattle.hd_block.proofs.block.Block.parts.Goals as goal

pub returns-clause-divided : goal.returns-clause-divided
returns-clause-divided c xs h w = c.new.ensures ∙ parts-divided (sizes_of c.args.self.now) (bytes_of c.args.self.now) xs h w
