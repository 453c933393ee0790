use Rattle.hd_links.proofs.Types.{ordered}
use Rattle.hd_links.proofs.Replacing.{bytes_held}
use Rattle.hd_links.proofs.law.law_replacing_changes_bytes.Goals as goal

pub returns : goal.returns
returns c block_size frspc types bound m m2 f a bytes formed graph holds can agree =
    bytes_held a bytes types m m2 can agree (ordered block_size frspc types formed) bound graph f holds
