use Rattle.hd_dbd.proofs.LevelLaw.{leveled}
use Rattle.hd_links.proofs.Types.{ordered}
use Rattle.hd_links.proofs.Standing.{row_found}
use Rattle.hd_links.proofs.Following.{stepped, first_found}
use Rattle.hd_links.proofs.law.law_pointers_follow_rows.Goals as goal

pub returns : goal.returns
returns c block_size frspc types bound m f formed graph holds =
    let O = ordered block_size frspc types formed in
    let levels = leveled block_size frspc types formed in (
      λ i within. stepped types O levels bound m graph f holds i (row_found types O levels bound m graph f holds i within) within,
      first_found types O levels bound m graph f holds,
    )
