use Rattle.hd_dbd.proofs.Fitting.{types_fit}
use Rattle.hd_prefix.proofs.Places.{placed, place_inside}
use Rattle.hd_prefix.proofs.law.law_pointers_stand_inside.Goals as goal

pub returns : goal.returns
returns c = λ block_size frspc types code pointer place fit is.
    place_inside types code pointer place (placed block_size types code pointer place (types_fit block_size frspc types fit) is)
