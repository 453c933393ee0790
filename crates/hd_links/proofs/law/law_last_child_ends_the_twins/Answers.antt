use Rattle.hd_links.proofs.Types.{ordered}
use Rattle.hd_links.proofs.Sound.{are_linked}
use Rattle.hd_links.proofs.Backward.{last_found}
use Rattle.hd_links.proofs.law.law_last_child_ends_the_twins.Goals as goal

pub returns : goal.returns
returns c block_size frspc types bound m f h t formed graph holds here typed kept =
    last_found types m (are_linked types (ordered block_size frspc types formed) bound m graph f holds) h t here typed kept
