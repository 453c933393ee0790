use Rattle.hd_links.proofs.Types.{ordered}
use Rattle.hd_links.proofs.Unique.{unique}
use Rattle.hd_links.proofs.Decide.{exists}
use Rattle.hd_links.proofs.Sound.{are_linked}
use Rattle.hd_links.proofs.law.law_pointers_decide.Goals as goal

pub returns : goal.returns
returns c block_size frspc types bound m formed graph =
    let O = ordered block_size frspc types formed in (
      λ L. (let H = exists types O bound m graph L in (H.0, H.1, λ g holds. unique types O m g H.0 holds H.1)),
      λ f holds. are_linked types O bound m graph f holds,
    )
