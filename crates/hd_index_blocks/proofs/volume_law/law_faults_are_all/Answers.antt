use Rattle.hd_index_blocks.proofs.RowFaults.{faults-all}
use Rattle.hd_index_blocks.proofs.volume_law.law_faults_are_all.Goals as goal

pub returns : goal.returns
returns g = faults-all
