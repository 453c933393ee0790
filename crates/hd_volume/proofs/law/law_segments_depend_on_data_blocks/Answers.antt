use Rattle.hd_volume.proofs.LawLemmas.{segments-frame}
use Rattle.hd_volume.proofs.law.law_segments_depend_on_data_blocks.Goals as goal

pub returns : goal.returns
returns c = segments-frame
