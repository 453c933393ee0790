use Rattle.hd_volume.proofs.IndexLemmas.{index-stays}
use Rattle.hd_volume.proofs.law.law_an_index_stays.Goals as goal

pub returns : goal.returns
returns c = index-stays
