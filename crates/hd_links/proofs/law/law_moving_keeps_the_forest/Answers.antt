use Rattle.hd_links.specs.Moves.{moved}
use Rattle.hd_links.proofs.Moving.{agrees, graph, held}
use Rattle.hd_links.proofs.law.law_moving_keeps_the_forest.Goals as goal

pub returns : goal.returns
returns c block_size frspc types bound m f a b formed old holds can small = (
  graph a b m can types (moved m a b) (agrees types (moved m a b)) bound old small,
  λ m2 agree. (graph a b m can types m2 agree bound old small, held a b m can types m2 agree bound old f holds),
)
