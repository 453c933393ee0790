use Rattle.hd_changes.proofs.VolumeImages.{lacking-room, follow}
use Rattle.hd_changes.proofs.law.law_images_follow_volumes.Goals as goal

pub returns-clause-lacks : goal.returns-clause-lacks
returns-clause-lacks c = lacking-room

pub returns-clause-follows : goal.returns-clause-follows
returns-clause-follows c = follow
