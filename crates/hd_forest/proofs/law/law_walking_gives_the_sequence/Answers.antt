use Rattle.hd_forest.proofs.Walking.{walking}
use Rattle.hd_forest.proofs.law.law_walking_gives_the_sequence.Goals as goal

pub returns : goal.returns
returns c = walking
