use Rattle.hd_dbd.proofs.LevelLaw.{leveled}
use Rattle.hd_links.proofs.Types.{ordered}
use Rattle.hd_links.proofs.RowChanges.{span_out}
use Rattle.hd_links.proofs.law.law_spans_are_rows_to_their_end.Goals as goal

pub returns : goal.returns
returns c block_size frspc types bound m f h y a i formed graph holds can within at =
    span_out types (ordered block_size frspc types formed) (leveled block_size frspc types formed) bound m graph f holds h y a i can within at
