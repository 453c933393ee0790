use Rattle.hd_index_blocks.proofs.Linking.{ways-linked}
use Rattle.hd_index_blocks.proofs.law.law_ways_stay_linked.Goals as goal

pub returns : goal.returns
returns g = ways-linked
