use Rattle.std.proofs.Common.{ap}
use Rattle.hd_index_blocks.specs.Levels.{across}
use Rattle.hd_index_blocks.proofs.Descents.{leaf-is}
use Rattle.hd_index_blocks.proofs.law.law_keys_lead_to_leaves.Goals as goal

pub returns : goal.returns
returns g c key h top set = let s = leaf-is c key h top set in (s.left, s.right, s.around, ap (across c) s.whole)
