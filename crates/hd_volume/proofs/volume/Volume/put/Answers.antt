use Rattle.hd_volume.proofs.SpacingLemmas.{kept-call}
use Rattle.hd_volume.proofs.volume.Volume.put.Goals as goal

pub returns-clause-call : goal.returns-clause-call
returns-clause-call g c = kept-call c.put_segment.result c.put_segment.ensures.step c.put_segment.ensures.spacing c.put_segment.ensures.kept c.put_segment.ensures.space
