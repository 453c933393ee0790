use Rattle.hd_index_blocks.proofs.Linking.{divisions-linked}
use Rattle.hd_index_blocks.proofs.law.law_divisions_stay_linked.Goals as goal

pub returns : goal.returns
returns g = divisions-linked
