use Rattle.hd_index_blocks.proofs.Descents.{stepped}
use Rattle.hd_index_blocks.proofs.law.law_steps_stay_around.Goals as goal

pub returns : goal.returns
returns g c key l left p right a = let s = stepped c key l left p right a in (s.before, s.behind, s.named_by, s.less, s.around)
