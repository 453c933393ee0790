use Rattle.std.proofs.Common.{refl}
use Rattle.hd_dbd.specs.Hierarchy.{parent_of}
use Rattle.hd_dbd.proofs.LevelLaw.{leveled}
use Rattle.hd_links.proofs.Types.{ordered}
use Rattle.hd_links.proofs.LastPath.{loaded}
use Rattle.hd_links.proofs.law.law_loaded_rows_come_last.Goals as goal

pub returns : goal.returns
returns c block_size frspc types bound m f p formed graph holds fits may free =
    loaded types (ordered block_size frspc types formed) (leveled block_size frspc types formed) bound m graph f holds p fits may free (parent_of types p.segment.code) refl
