use Rattle.hd_links.proofs.Types.{ordered}
use Rattle.hd_links.proofs.Linking.{leaf_held}
use Rattle.hd_links.proofs.law.law_linking_adds_a_leaf.Goals as goal

pub returns : goal.returns
returns c block_size frspc types bound m m2 f h y p formed graph holds can small agree =
    leaf_held types (ordered block_size frspc types formed) bound m m2 graph f holds h y p can small agree
