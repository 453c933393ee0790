use Rattle.hd_links.proofs.Types.{ordered}
use Rattle.hd_links.proofs.MovingWith.{moved_held}
use Rattle.hd_links.proofs.law.law_moving_with_new_bytes.Goals as goal

pub returns : goal.returns
returns c block_size frspc types bound m m2 f h y a b bytes formed old holds replaces can moves small agree =
    moved_held types (ordered block_size frspc types formed) bound m old f holds h y a b can moves bytes replaces m2 agree small
