use Rattle.hd_index_blocks.proofs.Raising.{raised}
use Rattle.hd_index_blocks.proofs.law.law_upper_keys_may_change.Goals as goal

pub returns : goal.returns
returns g c d l left p right front e back key set was is others lower up first = raised c d l left p right front e back key was is others lower up first set
