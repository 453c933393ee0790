use Rattle.hd_index_blocks.proofs.Incoming.{come-in, comes-in}
use Rattle.hd_index_blocks.proofs.law.law_new_keys_come_in.Goals as goal

pub returns : goal.returns
returns g c key by l left p right a none is = come-in c key by l left p right a (comes-in c key by l left p right a none is)
