use Rattle.std.proofs.Common.{refl}
use Rattle.hd_links.proofs.Types.{ordered}
use Rattle.hd_links.proofs.Sound.{are_linked}
use Rattle.hd_links.proofs.Backward.{found}
use Rattle.hd_links.proofs.law.law_backward_names_the_twin_before.Goals as goal

pub returns : goal.returns
returns c block_size frspc types bound m f h a formed graph holds here typed chain kept =
    let O = ordered block_size frspc types formed in
    found types O m (are_linked types O bound m graph f holds) h (m.code a) here typed a refl chain kept
