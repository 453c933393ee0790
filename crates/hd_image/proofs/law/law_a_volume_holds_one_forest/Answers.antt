use Rattle.std.proofs.Common.{ap, sym, ◌∙◌}
use Rattle.hd_links.specs.Placed.{forest_of}
use Rattle.hd_links.proofs.Types.{ordered}
use Rattle.hd_links.proofs.Unique.{unique}
use Rattle.hd_image.specs.Records.{links_of}
use Rattle.hd_image.proofs.law.law_a_volume_holds_one_forest.Goals as goal

pub returns : goal.returns
returns c = λ d v f g fit one other.
    sym one.1 ∙ ap forest_of (unique d.types (ordered d.block_size d.frspc d.types fit) (links_of d.types v) one.0 other.0 one.2.records other.2.records) ∙ other.1
