use Rattle.hd_unload.proofs.Streaming.{one-list}
use Rattle.hd_unload.proofs.law.law_streams_spell_one_list.Goals as goal

pub returns : goal.returns
returns c = one-list
