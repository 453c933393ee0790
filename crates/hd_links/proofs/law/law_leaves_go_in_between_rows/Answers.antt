use Rattle.hd_dbd.proofs.LevelLaw.{leveled}
use Rattle.hd_links.proofs.Types.{ordered}
use Rattle.hd_links.proofs.RowChanges.{leaf_in}
use Rattle.hd_links.proofs.law.law_leaves_go_in_between_rows.Goals as goal

pub returns : goal.returns
returns c block_size frspc types bound m f h y p formed graph holds can =
    leaf_in types (ordered block_size frspc types formed) (leveled block_size frspc types formed) bound m graph f holds h y p can
