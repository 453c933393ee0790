use Rattle.hd_links.proofs.Types.{ordered}
use Rattle.hd_links.proofs.Unlinking.{span_gone}
use Rattle.hd_links.proofs.law.law_unlinking_takes_a_span.Goals as goal

pub returns : goal.returns
returns c block_size frspc types bound m m2 f h y a formed graph holds can agree =
    span_gone types (ordered block_size frspc types formed) bound m m2 graph f holds h y a can agree
