use Rattle.hd_dbd.proofs.Fitting.{types_fit}
use Rattle.hd_prefix.proofs.Places.{placed, places_apart}
use Rattle.hd_prefix.proofs.law.law_pointers_stand_apart.Goals as goal

pub returns : goal.returns
returns c = λ block_size frspc types code one other x y fit differ is also.
    let all = types_fit block_size frspc types fit in
    places_apart types code one other x y differ (placed block_size types code one x all is) (placed block_size types code other y all also)
